use Rattle.std.proofs.Common.{[], subst, sym}
use Rattle.hive_workers.proofs.Turns.{working-kept, working-returned}
use Rattle.hive_workers.specs.Working.{IsWorking}
use Rattle.hive_workers.specs.declared.tally.Tally.{Tally}
use Rattle.hive_workers.proofs.giving.put_back.Goals as goal

pub returns-in-Booked-clause-working : goal.returns-in-Booked-clause-working
returns-in-Booked-clause-working g c p w =
    subst (λ (t : Tally). IsWorking c.args.hall.now p [] t c.back.new.pass) (sym c.put_back.ensures)
    (working-returned c.args.hall.now p c.args.pass.now c.back.new.pass c.args.tally.now c.requires.pass c.args.claimed
    c.in-Booked.ensures.call c.in-Booked.ensures.queue w)

pub returns-in-NotOutstanding-clause-working : goal.returns-in-NotOutstanding-clause-working
returns-in-NotOutstanding-clause-working g c p w =
    subst (λ (t : Tally). IsWorking c.args.hall.now p [] t c.back.new.pass) (sym c.hand_back.ensures)
    (working-kept c.args.hall.now p c.args.pass.now c.back.new.pass c.args.tally.now c.requires.pass c.args.claimed
    c.in-NotOutstanding.claimed c.in-NotOutstanding.ensures.call c.in-NotOutstanding.ensures.queue w)
