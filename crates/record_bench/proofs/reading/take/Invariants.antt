use Rattle.std.proofs.Common.{◌≡◌}
use Rattle.record_bench.proofs.reading.take.Given as goal

abbrev pub invariant-loop-count : goal.invariant-loop-count
invariant-loop-count l = l.reader.ended ≡ l.fn.reader.ended
