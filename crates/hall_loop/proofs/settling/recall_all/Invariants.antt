use Rattle.hall_loop.proofs.Recalls.{out_at}
use Rattle.hall_loop.specs.Settled.{Enters}
use Rattle.hive_workers.specs.Items.{is_back}
use Rattle.scheduler_core.specs.State.{IsDesk}
use Rattle.hall_loop.proofs.settling.recall_all.Given as goal

abbrev pub invariant-claims : goal.invariant-claims
invariant-claims l = Enters is_back l.fn.desk l.desk × IsDesk l.desk

abbrev pub decreases-claims : goal.decreases-claims
decreases-claims l = out_at l.desk
