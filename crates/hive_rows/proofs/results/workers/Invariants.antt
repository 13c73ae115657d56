use Rattle.std.proofs.Common.{◌≡◌, ◌+◌, All, length}
use Rattle.action_queue.specs.Passes.{IsPassOf}
use Rattle.hive_rows.specs.Workers.{IsReady}
use Rattle.hive_rows.proofs.results.workers.Given as goal

abbrev pub invariant-loop-pass : goal.invariant-loop-pass
invariant-loop-pass l = All (IsPassOf l.queue) l.passes.items × All (IsReady l.queue) l.made.items × (length l.made.items + length l.passes.items ≡ 6)

abbrev pub decreases-loop-pass : goal.decreases-loop-pass
decreases-loop-pass l = length l.passes.items
