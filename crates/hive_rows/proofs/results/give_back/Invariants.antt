use Rattle.std.proofs.Common.{◌≡◌, ◌+◌, ◌≤◌, All, length}
use Rattle.action_queue.specs.Passes.{IsPassOf}
use Rattle.hive_rows.specs.declared.worker.Worker.{Worker}
use Rattle.hive_rows.proofs.results.give_back.Given as goal

abbrev pub invariant-loop-worker : goal.invariant-loop-worker
invariant-loop-worker l = All (λ (w : Worker). IsPassOf l.queue w.pass) l.workers.items × All (IsPassOf l.queue) l.passes.items
    × (length l.passes.items + length l.workers.items ≡ length l.fn.workers.items) × (length l.workers.items ≤ l.passes.spare)

abbrev pub decreases-loop-worker : goal.decreases-loop-worker
decreases-loop-worker l = length l.workers.items
