use Rattle.std.proofs.Common.{refl}
use Rattle.hall_loop.proofs.Steps.{done-kept}
use Rattle.scheduler_core.specs.declared.answers.Give.TheVariants.{Booked, NotOutstanding}
use Rattle.hall_loop.proofs.Deeds.{call-grows}
use Rattle.hall_loop.proofs.Holding.{done-holds}
use Rattle.hall_loop.proofs.hall_loop.HallLoop.enter_done.Goals as goal

pub returns-in-Booked-clause-says : goal.returns-in-Booked-clause-says
returns-in-Booked-clause-says g c = record {
  given = (done-kept c.args.hall.now c.args.self.now.pass c.done.new.pass _ _ _ _ _ _ c.requires.beside
      c.in-Booked.ensures.pass c.args.done Booked c.in-Booked.ensures.call).same;
  handed = refl;
}

pub returns-in-Booked-clause-beside : goal.returns-in-Booked-clause-beside
returns-in-Booked-clause-beside g c =
    (done-kept c.args.hall.now c.args.self.now.pass c.done.new.pass _ _ _ _ _ _ c.requires.beside
    c.in-Booked.ensures.pass c.args.done Booked c.in-Booked.ensures.call).on

pub returns-in-NotOutstanding-clause-says : goal.returns-in-NotOutstanding-clause-says
returns-in-NotOutstanding-clause-says g c = record {
  given = (done-kept c.args.hall.now c.args.self.now.pass c.done.new.pass _ _ _ _ _ _ c.requires.beside
      c.in-NotOutstanding.ensures.pass c.args.done (NotOutstanding c.in-NotOutstanding._done)
      c.in-NotOutstanding.ensures.call).same;
  handed = refl;
}

pub returns-in-NotOutstanding-clause-beside : goal.returns-in-NotOutstanding-clause-beside
returns-in-NotOutstanding-clause-beside g c =
    (done-kept c.args.hall.now c.args.self.now.pass c.done.new.pass _ _ _ _ _ _ c.requires.beside
    c.in-NotOutstanding.ensures.pass c.args.done (NotOutstanding c.in-NotOutstanding._done)
    c.in-NotOutstanding.ensures.call).on

pub returns-in-Booked-clause-none_held : goal.returns-in-Booked-clause-none_held
returns-in-Booked-clause-none_held g c it =
    done-holds c.args.hall.now c.args.self.now.pass c.done.new.pass c.requires.beside.pass c.in-Booked.ensures.pass
    c.args.done Booked c.in-Booked.ensures.call it

pub returns-in-NotOutstanding-clause-none_held : goal.returns-in-NotOutstanding-clause-none_held
returns-in-NotOutstanding-clause-none_held g c it =
    done-holds c.args.hall.now c.args.self.now.pass c.done.new.pass c.requires.beside.pass
    c.in-NotOutstanding.ensures.pass c.args.done (NotOutstanding c.in-NotOutstanding._done)
    c.in-NotOutstanding.ensures.call it

pub returns-in-Booked-clause-done : goal.returns-in-Booked-clause-done
returns-in-Booked-clause-done g c =
    call-grows c.args.self.now.pass c.done.new.pass c.in-Booked.ensures.call c.in-Booked.ensures.queue.1

pub returns-in-NotOutstanding-clause-done : goal.returns-in-NotOutstanding-clause-done
returns-in-NotOutstanding-clause-done g c =
    call-grows c.args.self.now.pass c.done.new.pass c.in-NotOutstanding.ensures.call c.in-NotOutstanding.ensures.queue.1
