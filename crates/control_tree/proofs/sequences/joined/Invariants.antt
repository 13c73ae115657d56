use Rattle.std.proofs.Common.{◌≡◌, ◌++◌, ℕ, drop, Global}
use Rattle.std.specs.List.{flat_map}
use Rattle.std.specs.declared.vec.Vec.{Vec}
use Rattle.control_tree.proofs.sequences.joined.Given as goal

abbrev pub invariant-loop-of_one : goal.invariant-loop-of_one
invariant-loop-of_one l =
    l.all.items ++ flat_map (λ (v : Vec ℕ Global). v.items) (drop l.of_one-index l.each) ≡ flat_map (λ (v : Vec ℕ Global). v.items) l.each
