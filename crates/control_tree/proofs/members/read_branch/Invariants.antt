use Rattle.std.proofs.Common.{◌≡◌, ◌++◌, ℕ, List, drop, find, filter_map, is_none}
use Rattle.text_model.specs.Forest.{member_named}
use Rattle.control_tree.proofs.members.read_branch.Given as goal

abbrev pub invariant-loop-name : goal.invariant-loop-name
invariant-loop-name l = record {
  unknown : find (λ (name : List ℕ). is_none (member_named l.algorithms l.sequences name)) (drop l.name-index l.branch.members)
      ≡ find (λ (name : List ℕ). is_none (member_named l.algorithms l.sequences name)) l.branch.members;
  read : l.members.items ++ filter_map (member_named l.algorithms l.sequences) (drop l.name-index l.branch.members)
      ≡ filter_map (member_named l.algorithms l.sequences) l.branch.members;
}
