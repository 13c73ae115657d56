use Rattle.std.proofs.Common.{◌≡◌, take}
use Rattle.text_model.specs.Forest.{branch_names}
use Rattle.control_tree.proofs.building.sequence_names.Given as goal

abbrev pub invariant-loop-branch : goal.invariant-loop-branch
invariant-loop-branch l = l.names ≡ branch_names (take l.branch-index l.branches)
