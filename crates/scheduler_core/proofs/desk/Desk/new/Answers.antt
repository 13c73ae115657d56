use Rattle.scheduler_core.proofs.Keeping.{kept-desk}
use Rattle.scheduler_core.proofs.Opened.{opened}
use Rattle.scheduler_core.proofs.desk.Desk.new.Goals as goal

pub invariant_of-result : goal.invariant_of-result
invariant_of-result c =
    opened _ c.deref.result.now _ _ c.args.slots _ c.in_ok-room.room c.requires.valid c.requires.some c.deref.ensures
    c.new-2.ensures c.in_ok-journal.ensures.items c.in_ok-room.ensures c.in_ok-journal.ensures.spare

pub returns-clause-desk : goal.returns-clause-desk
returns-clause-desk c = kept-desk _ _ _ _ _ _ _ (invariant_of-result c)
