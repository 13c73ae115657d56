use Rattle.std.proofs.Common.{◌≡◌, ◌+◌, ◌≤◌, length, drop}
use Rattle.text_model.specs.Forest.{leaves_in}
use Rattle.control_tree.proofs.leaves.leaf_count.Given as goal

abbrev pub invariant-loop-member : goal.invariant-loop-member
invariant-loop-member l = (l.count + length (leaves_in (drop l.member-index l.members)) ≡ length (leaves_in l.members)) × (l.count ≤ l.member-index)
