use Rattle.std.proofs.Common.{All, length}
use Rattle.action_queue.specs.Passes.{IsPassOf}
use Rattle.lock_bench.specs.Senders.{MaySend}
use Rattle.lock_bench.proofs.queues.senders.Given as goal

abbrev pub invariant-loop-pass : goal.invariant-loop-pass
invariant-loop-pass l = All (IsPassOf l.queue) l.passes.items × All (MaySend l.queue) l.made.items

abbrev pub decreases-loop-pass : goal.decreases-loop-pass
decreases-loop-pass l = length l.passes.items
