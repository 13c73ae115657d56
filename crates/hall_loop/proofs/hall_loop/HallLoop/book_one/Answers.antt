use Rattle.std.proofs.Common.{refl}
use Rattle.hall_loop.proofs.Steps.{book-kept}
use Rattle.hive_hall.specs.declared.answers.Book.TheVariants as book
use Rattle.hall_loop.proofs.Deeds.{book-done}
use Rattle.hall_loop.proofs.Holding.{book-holds}
use Rattle.hall_loop.proofs.hall_loop.HallLoop.book_one.Goals as goal

pub returns-in-Booked-clause-says : goal.returns-in-Booked-clause-says
returns-in-Booked-clause-says g c = record {
  given = (book-kept c.args.hall.now c.args.self.now.pass c.book.new.pass _ _ _ _ _ _ c.requires
      c.in-Booked.ensures.pass book.Booked c.in-Booked.ensures.says).same;
  handed = refl;
}

pub returns-in-Booked-clause-beside : goal.returns-in-Booked-clause-beside
returns-in-Booked-clause-beside g c =
    (book-kept c.args.hall.now c.args.self.now.pass c.book.new.pass _ _ _ _ _ _ c.requires
    c.in-Booked.ensures.pass book.Booked c.in-Booked.ensures.says).on

pub returns-in-NotOutstanding-clause-says : goal.returns-in-NotOutstanding-clause-says
returns-in-NotOutstanding-clause-says g c = record {
  given = (book-kept c.args.hall.now c.args.self.now.pass c.book.new.pass _ _ _ _ _ _ c.requires
      c.in-NotOutstanding.ensures.pass (book.NotOutstanding c.in-NotOutstanding._done)
      c.in-NotOutstanding.ensures.says).same;
  handed = refl;
}

pub returns-in-NotOutstanding-clause-beside : goal.returns-in-NotOutstanding-clause-beside
returns-in-NotOutstanding-clause-beside g c =
    (book-kept c.args.hall.now c.args.self.now.pass c.book.new.pass _ _ _ _ _ _ c.requires
    c.in-NotOutstanding.ensures.pass (book.NotOutstanding c.in-NotOutstanding._done)
    c.in-NotOutstanding.ensures.says).on

pub returns-in-Empty-clause-beside : goal.returns-in-Empty-clause-beside
returns-in-Empty-clause-beside g c =
    (book-kept c.args.hall.now c.args.self.now.pass c.book.new.pass _ _ _ _ _ _ c.requires
    c.in-Empty.ensures.pass book.Empty c.in-Empty.ensures.says).on

pub returns-in-Booked-clause-none_held : goal.returns-in-Booked-clause-none_held
returns-in-Booked-clause-none_held g c it =
    book-holds c.args.hall.now c.args.self.now.pass c.book.new.pass c.requires.pass c.in-Booked.ensures.pass book.Booked
    c.in-Booked.ensures.says it

pub returns-in-NotOutstanding-clause-none_held : goal.returns-in-NotOutstanding-clause-none_held
returns-in-NotOutstanding-clause-none_held g c it =
    book-holds c.args.hall.now c.args.self.now.pass c.book.new.pass c.requires.pass c.in-NotOutstanding.ensures.pass (book.NotOutstanding c.in-NotOutstanding._done)
    c.in-NotOutstanding.ensures.says it

pub returns-in-Empty-clause-none_held : goal.returns-in-Empty-clause-none_held
returns-in-Empty-clause-none_held g c it =
    book-holds c.args.hall.now c.args.self.now.pass c.book.new.pass c.requires.pass c.in-Empty.ensures.pass book.Empty
    c.in-Empty.ensures.says it

pub returns-in-Booked-clause-done : goal.returns-in-Booked-clause-done
returns-in-Booked-clause-done g c =
    book-done c.args.self.now.pass c.book.new.pass c.args.hall.now book.Booked c.in-Booked.ensures.says

pub returns-in-NotOutstanding-clause-done : goal.returns-in-NotOutstanding-clause-done
returns-in-NotOutstanding-clause-done g c =
    book-done c.args.self.now.pass c.book.new.pass c.args.hall.now (book.NotOutstanding c.in-NotOutstanding._done) c.in-NotOutstanding.ensures.says

pub returns-in-Empty-clause-done : goal.returns-in-Empty-clause-done
returns-in-Empty-clause-done g c =
    book-done c.args.self.now.pass c.book.new.pass c.args.hall.now book.Empty c.in-Empty.ensures.says
