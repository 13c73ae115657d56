use Rattle.tables_bench.specs.Keeping.{IsKept}
use Rattle.tables_bench.proofs.event.Event.run.Given as goal

abbrev pub invariant-loop-algorithm : goal.invariant-loop-algorithm
invariant-loop-algorithm l = IsKept l.job l.self
