use Rattle.std.proofs.Common.{◌≡◌}
use Rattle.desk_bench.proofs.plain.push_reports.Given as goal

abbrev pub invariant-loop : goal.invariant-loop
invariant-loop l = l.reader.ended ≡ l.fn.reader.ended
