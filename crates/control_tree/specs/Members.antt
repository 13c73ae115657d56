-- The parts of the forest's definition that are read from a list of sequences, where the names of all algorithms and sequences
-- are known.
use Rattle.std.specs.Prelude.{ℕ, is_none, List, map, find, filter_map, Option, option_map}
use Rattle.hive_model.specs.Many.{Many}
use Rattle.hive_model.specs.declared.sequence.Member.{Member}
use Rattle.text_model.specs.Forest.{Branch, member_named}
use Rattle.text_model.specs.Steps.{find_map}
use Rattle.text_model.specs.declared.tree_refusal.TreeRefusal.{TreeRefusal}
use Rattle.text_model.specs.declared.tree_refusal.TreeRefusal.TheVariants.{UnknownMember}

-- lists of members, without their room
abbrev pub lists : List (Many Member) → List (List Member)
lists all = map (λ (it : Many Member). it.items) all

abbrev pub unknown_in : List (List ℕ) → List (List ℕ) → Branch → Option TreeRefusal
unknown_in algorithms sequences b =
    option_map (UnknownMember b.name) (find (λ name. is_none (member_named algorithms sequences name)) b.members)

abbrev pub unknown_among : List (List ℕ) → List (List ℕ) → List Branch → Option TreeRefusal
unknown_among algorithms sequences branches = find_map (unknown_in algorithms sequences) branches

abbrev pub members_in : List (List ℕ) → List (List ℕ) → Branch → List Member
members_in algorithms sequences b = filter_map (member_named algorithms sequences) b.members

abbrev pub numbered : List (List ℕ) → List (List ℕ) → List Branch → List (List Member)
numbered algorithms sequences branches = map (members_in algorithms sequences) branches
