use Rattle.std.proofs.Common.{take}
use Rattle.graph_parts.specs.Following.{Follows}
use Rattle.graph_parts.proofs.cycle.follow.Given as goal

abbrev pub invariant-loop-target : goal.invariant-loop-target
invariant-loop-target l = Follows (take l.target-index l.targets) l.from l.fn.seen.items l.fn.found.items l.seen.items l.found.items
