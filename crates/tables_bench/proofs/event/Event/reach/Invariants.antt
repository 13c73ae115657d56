use Rattle.tables_bench.specs.Keeping.{IsKept}
use Rattle.tables_bench.proofs.event.Event.reach.Given as goal

abbrev pub invariant-loop-number : goal.invariant-loop-number
invariant-loop-number l = IsKept l.job l.self
