use Rattle.std.proofs.Common.{length}
use Rattle.action_queue.specs.Passes.{IsPassOf}
use Rattle.hive_rows.specs.Workers.{IsReady}
use Rattle.hive_rows.proofs.results.work.Given as goal

abbrev pub invariant-loop-done : goal.invariant-loop-done
invariant-loop-done g l = IsReady l.queue l.worker

abbrev pub decreases-loop-done : goal.decreases-loop-done
decreases-loop-done g l = length l.worker.results.items

abbrev pub invariant-loop : goal.invariant-loop
invariant-loop g l = IsPassOf l.queue l.worker.pass
