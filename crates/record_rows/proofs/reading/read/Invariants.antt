use Rattle.std.proofs.Common.{◌≡◌, false}
use Rattle.record_rows.proofs.reading.read.Given as goal

abbrev pub invariant-loop-piece : goal.invariant-loop-piece
invariant-loop-piece l = l.reader.ended ≡ false
