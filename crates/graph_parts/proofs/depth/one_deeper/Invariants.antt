use Rattle.std.proofs.Common.{◌≡◌, ℕ, map, take, Global}
use Rattle.std.specs.declared.vec.Vec.{Vec}
use Rattle.graph_parts.specs.Links.{deeper_by}
use Rattle.graph_parts.proofs.depth.one_deeper.Given as goal

abbrev pub invariant-loop-below : goal.invariant-loop-below
invariant-loop-below l = l.flags.items ≡ map (λ (v : Vec ℕ Global). deeper_by l.deeper v.items) (take l.below-index l.next)
