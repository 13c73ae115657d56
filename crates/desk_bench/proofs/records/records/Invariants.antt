use Rattle.desk_bench.specs.Waiting.{AreFitting}
use Rattle.desk_bench.proofs.records.records.Given as goal

abbrev pub invariant-loop-number : goal.invariant-loop-number
invariant-loop-number l = AreFitting l.job l.records.items
