use Rattle.std.proofs.Common.{◌≡◌, ◌++◌, drop}
use Rattle.text_model.specs.Forest.{sequences_in}
use Rattle.control_tree.proofs.sequences.sequences_of.Given as goal

abbrev pub invariant-loop-member : goal.invariant-loop-member
invariant-loop-member l = l.sequences.items ++ sequences_in (drop l.member-index l.members) ≡ sequences_in l.members
