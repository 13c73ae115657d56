use Rattle.std.proofs.Common.{◌≡◌, ◌++◌, drop}
use Rattle.control_tree.specs.Members.{lists, numbered, unknown_among}
use Rattle.control_tree.proofs.members.read_members.Given as goal

abbrev pub invariant-loop-branch : goal.invariant-loop-branch
invariant-loop-branch l = record {
  unknown : unknown_among l.algorithms l.sequences (drop l.branch-index l.branches) ≡ unknown_among l.algorithms l.sequences l.branches;
  read : lists l.all.items ++ numbered l.algorithms l.sequences (drop l.branch-index l.branches) ≡ numbered l.algorithms l.sequences l.branches;
}
