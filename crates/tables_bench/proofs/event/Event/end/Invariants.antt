use Rattle.tables_bench.specs.Keeping.{IsKept}
use Rattle.tables_bench.proofs.event.Event.end.Given as goal

abbrev pub invariant-loop-output : goal.invariant-loop-output
invariant-loop-output l = IsKept l.job l.self
