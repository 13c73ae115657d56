use Rattle.action_queue.specs.Passes.{IsPassOf}
use Rattle.hive_rows.proofs.results.take.Given as goal

abbrev pub invariant-loop : goal.invariant-loop
invariant-loop g l = IsPassOf l.queue l.pass
