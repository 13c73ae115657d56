use Rattle.tables_bench.specs.Keeping.{IsKept}
use Rattle.tables_bench.proofs.time_tables.Given as goal

abbrev pub invariant-loop-event : goal.invariant-loop-event
invariant-loop-event l = IsKept l.job l.event
