use Rattle.tables_bench.specs.Keeping.{IsKept}
use Rattle.tables_bench.proofs.event.Event.begin.Given as goal

abbrev pub invariant-loop-handle : goal.invariant-loop-handle
invariant-loop-handle l = IsKept l.job l.self
