-- The forest of sequences with its top, or the first refusal, in the order of `TreeRefusal`. A member is an algorithm or a sequence
-- by its name. A sequence has the depth 1 where it has no member sequence, and else one more than the deepest of them.
-- `control_tree` answers this.
use Rattle.std.specs.Prelude.{ℕ, nat_eq, nat_lt, is_none, List, [], length, map, find, flat_map, filter_map, Option, slice_get, Result, Ok, option_map}
use Rattle.std.specs.List.{list_any, range_with_len}
use Rattle.std.specs.Option.{option_map_or, option_or}
use Rattle.hive_model.specs.ControlFlow.{algorithm_number, sequence_number}
use Rattle.hive_model.specs.declared.limits.TheConstants.{MOST_DEPTH, MOST_LEAVES}
use Rattle.hive_model.specs.declared.sequence.Member.{Member}
use Rattle.hive_model.specs.declared.sequence.Member.TheVariants.{Alg, Seq}
use Rattle.text_model.specs.Names.{first_repeated, name_at, number_of}
use Rattle.text_model.specs.Steps.{◌>>=◌, find_map, or_refuse, refuse_found, refuse_if, refuse_some}
use Rattle.text_model.specs.Walks.{is_deeper_than, is_on_cycle}
use Rattle.text_model.specs.declared.tree_refusal.TreeRefusal.{TreeRefusal}
use Rattle.text_model.specs.declared.tree_refusal.TreeRefusal.TheVariants.{UnknownTop, UnknownMember, SharedSequence, SequenceCycle, TopIsMember, TooDeep, TooManyLeaves}

-- a sequence and its members, by name
pub record Branch : Type 0 where
  pub name : List ℕ
  pub members : List (List ℕ)

pub record Forest : Type 0 where
  -- of each sequence in written order
  pub members : List (List Member)
  -- the number of the sequence at the top
  pub top : ℕ

abbrev pub branch_names : List Branch → List (List ℕ)
branch_names branches = map (λ (b : Branch). b.name) branches

-- members by number

abbrev pub member_named : List (List ℕ) → List (List ℕ) → List ℕ → Option Member
member_named algorithms sequences name =
    option_or (option_map Alg (number_of algorithms name)) (option_map Seq (number_of sequences name))

-- the first member that is neither, and its sequence
abbrev pub unknown_member : List (List ℕ) → List Branch → Option TreeRefusal
unknown_member algorithms branches =
    find_map (λ (b : Branch). option_map (UnknownMember b.name)
    (find (λ name. is_none (member_named algorithms (branch_names branches) name)) b.members)) branches

abbrev pub members_by_number : List (List ℕ) → List Branch → List (List Member)
members_by_number algorithms branches =
    map (λ (b : Branch). filter_map (member_named algorithms (branch_names branches)) b.members) branches

-- tests over the members of all sequences

abbrev pub all_of : List (List Member) → List Member
all_of members = flat_map (λ of_one. of_one) members

abbrev pub sequences_in : List Member → List ℕ
sequences_in members = filter_map sequence_number members

abbrev pub leaves_in : List Member → List ℕ
leaves_in members = filter_map algorithm_number members

-- the member sequences of a sequence
abbrev pub sequences_below : List (List Member) → ℕ → List ℕ
sequences_below members s = option_map_or sequences_in (slice_get members s) []

-- the first sequence that lies on a cycle of membership
abbrev pub on_cycle : List (List Member) → Option ℕ
on_cycle members = find (is_on_cycle (sequences_below members) (length members)) (range_with_len 0 (length members))

-- the first sequence that is too deep
abbrev pub too_deep : List (List Member) → Option ℕ
too_deep members = find (is_deeper_than (sequences_below members) MOST_DEPTH) (range_with_len 0 (length members))

-- the forest of members that are known, over the sequences' names
unfoldable pub forest_over : List (List ℕ) → List (List Member) → ℕ → Result Forest TreeRefusal
forest_over names members top = do
  once ← refuse_some (λ s. SharedSequence (name_at names s)) (first_repeated nat_eq (sequences_in (all_of members)))
  acyclic ← refuse_some (λ s. SequenceCycle (name_at names s)) (on_cycle members)
  topmost ← refuse_if (list_any (nat_eq top) (sequences_in (all_of members))) TopIsMember
  shallow ← refuse_some (λ s. TooDeep (name_at names s)) (too_deep members)
  few ← refuse_if (nat_lt MOST_LEAVES (length (leaves_in (all_of members)))) TooManyLeaves
  Ok (record { members = members; top = top })

unfoldable pub forest_of : List (List ℕ) → List Branch → List ℕ → Result Forest TreeRefusal
forest_of algorithms branches top = do
  number ← or_refuse (UnknownTop top) (number_of (branch_names branches) top)
  known ← refuse_found (unknown_member algorithms branches)
  forest_over (branch_names branches) (members_by_number algorithms branches) number
