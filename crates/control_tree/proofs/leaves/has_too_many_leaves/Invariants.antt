use Rattle.std.proofs.Common.{◌≡◌, ◌-◌, ◌^◌, min, length, take}
use Rattle.text_model.specs.Forest.{all_of, leaves_in}
use Rattle.control_tree.specs.Members.{lists}
use Rattle.control_tree.proofs.leaves.has_too_many_leaves.Given as goal

abbrev pub invariant-loop-of_one : goal.invariant-loop-of_one
invariant-loop-of_one l = l.count ≡ min (length (leaves_in (all_of (lists (take l.of_one-index l.members))))) (2 ^ 64 - 1)
