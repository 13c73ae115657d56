use Rattle.std.proofs.Common.{◌≡◌}
use Rattle.record_rows.proofs.reading.take.Given as goal

abbrev pub invariant-loop : goal.invariant-loop
invariant-loop l = l.reader.ended ≡ l.fn.reader.ended
