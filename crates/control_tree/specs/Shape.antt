-- What is looked for in a forest whose members are known, in its order: over the names of its sequences, the sequences below each
-- of so many, and all of these in written order. `forest_over` says the same over the members.
use Rattle.std.specs.Prelude.{ℕ, nat_eq, nat_lt, Bool, List, length, find, Result, Ok, All, ◌<◌}
use Rattle.std.specs.List.{list_any, range_with_len}
use Rattle.hive_model.specs.declared.limits.TheConstants.{MOST_DEPTH}
use Rattle.hive_model.specs.declared.sequence.Member.{Member}
use Rattle.text_model.specs.Forest.{sequences_in}
use Rattle.text_model.specs.Names.{first_repeated, name_at}
use Rattle.text_model.specs.Steps.{◌>>=◌, refuse_if, refuse_some}
use Rattle.text_model.specs.Walks.{is_deeper_than, is_on_cycle}
use Rattle.text_model.specs.declared.tree_refusal.TreeRefusal.{TreeRefusal}
use Rattle.text_model.specs.declared.tree_refusal.TreeRefusal.TheVariants.{SharedSequence, SequenceCycle, TopIsMember, TooDeep, TooManyLeaves}

abbrev pub no_sequence_is_shared : List (List ℕ) → List ℕ → Result (Unit {0}) TreeRefusal
no_sequence_is_shared names all = refuse_some (λ s. SharedSequence (name_at names s)) (first_repeated nat_eq all)

abbrev pub no_sequence_is_below_itself : List (List ℕ) → (ℕ → List ℕ) → ℕ → Result (Unit {0}) TreeRefusal
no_sequence_is_below_itself names below count =
    refuse_some (λ s. SequenceCycle (name_at names s)) (find (is_on_cycle below count) (range_with_len 0 count))

abbrev pub no_sequence_is_too_deep : List (List ℕ) → (ℕ → List ℕ) → ℕ → Result (Unit {0}) TreeRefusal
no_sequence_is_too_deep names below count =
    refuse_some (λ s. TooDeep (name_at names s)) (find (is_deeper_than below MOST_DEPTH) (range_with_len 0 count))

unfoldable pub has_shape : List (List ℕ) → (ℕ → List ℕ) → ℕ → List ℕ → ℕ → Bool → Result (Unit {0}) TreeRefusal
has_shape names below count all top many = do
  once ← no_sequence_is_shared names all
  acyclic ← no_sequence_is_below_itself names below count
  topmost ← refuse_if (list_any (nat_eq top) all) TopIsMember
  shallow ← no_sequence_is_too_deep names below count
  refuse_if many TooManyLeaves

-- each member that is a sequence is one of so many
abbrev pub AreMembersWithin : ℕ → List (List Member) → Type 0
AreMembersWithin count members = All (λ of_one. All (λ s. s < count) (sequences_in of_one)) members
