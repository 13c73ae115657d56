use Rattle.std.proofs.Common.{[], subst, sym}
use Rattle.hive_workers.proofs.Turns.{working-booked, working-queued, working-refused}
use Rattle.hive_workers.specs.Working.{IsWorking}
use Rattle.hive_workers.specs.declared.tally.Tally.{Tally}
use Rattle.hive_workers.proofs.giving.give.Goals as goal

pub returns-in-Queued-clause-working : goal.returns-in-Queued-clause-working
returns-in-Queued-clause-working g c p w =
    subst (λ (t : Tally). IsWorking c.args.hall.now p [] t c.post.new.pass) (sym c.give.ensures)
    (working-queued c.args.hall.now p c.args.pass.now c.post.new.pass c.args.tally.now c.requires.pass c.args.done
    c.in-Queued.ensures.says w)

pub returns-in-Booked-clause-working : goal.returns-in-Booked-clause-working
returns-in-Booked-clause-working g c p w =
    subst (λ (t : Tally). IsWorking c.args.hall.now p [] t c.post.new.pass) (sym c.give-in-Booked.ensures)
    (working-booked c.args.hall.now p c.args.pass.now c.post.new.pass c.args.tally.now c.requires.pass c.args.done
    c.in-Booked.ensures.says.call c.in-Booked.ensures.says.queue w)

pub returns-in-NotOutstanding-clause-working : goal.returns-in-NotOutstanding-clause-working
returns-in-NotOutstanding-clause-working g c p w =
    subst (λ (t : Tally). IsWorking c.args.hall.now p [] t c.post.new.pass) (sym c.hand_back.ensures)
    (working-refused c.args.hall.now p c.args.pass.now c.post.new.pass c.args.tally.now c.requires.pass c.args.done
    c.in-NotOutstanding._done c.in-NotOutstanding.ensures.says.call c.in-NotOutstanding.ensures.says.queue w)
