use Rattle.std.proofs.Common.{◌<◌}
use Rattle.tables_bench.proofs.anew.+decide.Given as goal

abbrev pub decreases-decide : goal.decreases-decide
decreases-decide l = l.depth

abbrev pub invariant-loop-member : goal.invariant-loop-member
invariant-loop-member l = 0 < l.depth
