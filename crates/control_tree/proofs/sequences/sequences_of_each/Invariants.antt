use Rattle.std.proofs.Common.{◌≡◌, ◌++◌, map, drop}
use Rattle.text_model.specs.Forest.{sequences_in}
use Rattle.control_tree.specs.Members.{lists}
use Rattle.control_tree.specs.Below.{items}
use Rattle.control_tree.proofs.sequences.sequences_of_each.Given as goal

abbrev pub invariant-loop-of_one : goal.invariant-loop-of_one
invariant-loop-of_one l = items l.each.items ++ map sequences_in (lists (drop l.of_one-index l.members)) ≡ map sequences_in (lists l.members)
