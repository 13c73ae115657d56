use Rattle.std.proofs.Common.{[], subst, sym}
use Rattle.hive_workers.proofs.Turns.{takes-alone, working-idle, working-stray, working-took}
use Rattle.hive_workers.specs.Working.{IsWorking}
use Rattle.hive_workers.specs.declared.tally.Tally.{Tally}
use Rattle.hive_workers.proofs.booking.book.Goals as goal

pub returns-in-Booked-clause-working : goal.returns-in-Booked-clause-working
returns-in-Booked-clause-working g c p w =
    working-took c.args.hall.now p c.args.pass.now c.book.new.pass c.args.tally.now c.requires
    c.in-Booked.ensures.says w

pub returns-in-Booked-clause-some : goal.returns-in-Booked-clause-some
returns-in-Booked-clause-some g c _ =
    takes-alone c.args.hall.now _ c.args.pass.now c.book.new.pass c.in-Booked.ensures.says

pub returns-in-NotOutstanding-clause-working : goal.returns-in-NotOutstanding-clause-working
returns-in-NotOutstanding-clause-working g c p w =
    subst (λ (t : Tally). IsWorking c.args.hall.now p [] t c.book.new.pass) (sym c.stray.ensures)
    (working-stray c.args.hall.now p c.args.pass.now c.book.new.pass c.args.tally.now c.requires
    c.in-NotOutstanding._done c.in-NotOutstanding.ensures.says w)

pub returns-in-NotOutstanding-clause-some : goal.returns-in-NotOutstanding-clause-some
returns-in-NotOutstanding-clause-some g c _ =
    takes-alone c.args.hall.now _ c.args.pass.now c.book.new.pass c.in-NotOutstanding.ensures.says

pub returns-in-Empty-clause-working : goal.returns-in-Empty-clause-working
returns-in-Empty-clause-working g c p w =
    working-idle c.args.hall.now p c.args.pass.now c.book.new.pass c.args.tally.now c.requires
    c.in-Empty.ensures.says.0 c.in-Empty.ensures.says.1 w
