use Rattle.std.proofs.Common.{◌≡◌, false}
use Rattle.desk_bench.proofs.plain.report_all.Given as goal

abbrev pub invariant-loop-piece : goal.invariant-loop-piece
invariant-loop-piece l = l.reader.ended ≡ false
