use Rattle.action_queue.specs.Passes.{IsPassOf}
use Rattle.lock_bench.proofs.queues.take.Given as goal

abbrev pub invariant-loop : goal.invariant-loop
invariant-loop g l = IsPassOf l.queue l.pass
