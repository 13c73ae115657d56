-- Marks of what is reached. They are right where two things hold, each of which looks at one node alone. They
-- are closed: each member that a marked sequence enters is marked. And each mark has a reason: it is the
-- top's, or a marked sequence enters it.
use Rattle.std.specs.Prelude.{◌≡◌, ℕ, ◌<◌, ◌≤◌, ◌⊎◌, Bool, true, List, map, Some, slice_get}
use Rattle.hive_model.specs.ControlFlow.{IsNestedWithin}
use Rattle.hive_model.specs.Reached.{entered}
use Rattle.hive_model.specs.Sequence.{Sequence}
use Rattle.hive_model.specs.declared.limits.TheConstants.{MOST_ALGORITHMS}
use Rattle.hive_model.specs.declared.sequence.Member.{Member}
use Rattle.hive_model.specs.declared.sequence.Member.TheVariants.{Alg, Seq}
use Rattle.number_set.specs.Numbers.{has}
use Rattle.decision_nodes.specs.Standing.{Standing}
use Rattle.decision_nodes.specs.declared.marks.Marks.{Marks}

abbrev pub marked : Marks → Member → Bool
marked marks (Alg a) = has marks.algorithms a
marked marks (Seq s) = has marks.sequences s

-- its number fits a set
abbrev pub IsSmall : Member → Type 0
IsSmall (Alg a) = a < MOST_ALGORITHMS
IsSmall (Seq s) = s < MOST_ALGORITHMS

-- one mark more
pub record Adds (before : Member → Bool) (member : Member) (after : Member → Bool) : Type 0 where
  pub more : (m : Member) → before m ≡ true → after m ≡ true
  pub added : after member ≡ true
  pub only : (m : Member) → after m ≡ true → (m ≡ member) ⊎ (before m ≡ true)

-- the node enters that member at that place
abbrev pub EntersAt : Standing → ℕ → Member → Type 0
EntersAt n i m = slice_get (entered n.sequence n.states) i ≡ Some m

-- a marked sequence enters the member
pub record IsEntered (nodes : List Standing) (marks : Member → Bool) (m : Member) : Type 0 where
  pub s : ℕ
  pub i : ℕ
  pub node : Standing
  pub is_marked : marks (Seq s) ≡ true
  pub there : slice_get nodes s ≡ Some node
  pub enters : EntersAt node i m

-- of each node the sequence
abbrev pub sequences_of : List Standing → List Sequence
sequences_of nodes = map (λ (n : Standing). n.sequence) nodes

-- at most so many sequences stand one below the other from the member on
unfoldable pub IsNested : ℕ → List Sequence → Member → Type 0
IsNested depth sequences m = IsNestedWithin depth sequences m

-- the numbers of all members fit a set
abbrev pub AreSmall : List Standing → Type 0
AreSmall nodes =
    (s i : ℕ) (n : Standing) (m : Member) → slice_get nodes s ≡ Some n →
    slice_get n.sequence.members i ≡ Some m → IsSmall m

-- what the sequence enters from that place on is marked
abbrev pub AreMarkedFrom : List Standing → (Member → Bool) → ℕ → ℕ → Type 0
AreMarkedFrom nodes marks s from =
    (i : ℕ) (n : Standing) (m : Member) → from ≤ i → slice_get nodes s ≡ Some n → EntersAt n i m →
    marks m ≡ true

-- the same of the places below another
abbrev pub AreMarkedBetween : List Standing → (Member → Bool) → ℕ → ℕ → ℕ → Type 0
AreMarkedBetween nodes marks s from to =
    (i : ℕ) (n : Standing) (m : Member) → from ≤ i → i < to → slice_get nodes s ≡ Some n → EntersAt n i m →
    marks m ≡ true

pub record AreMarks (nodes : List Standing) (top : ℕ) (marks : Member → Bool) : Type 0 where
  pub closed : (s : ℕ) → marks (Seq s) ≡ true → AreMarkedFrom nodes marks s 0
  pub reasons : (m : Member) → marks m ≡ true → (m ≡ Seq top) ⊎ IsEntered nodes marks m

-- more marks, each new one with what it enters and its reason
pub record Reaches (nodes : List Standing) (before after : Member → Bool) : Type 0 where
  pub more : (m : Member) → before m ≡ true → after m ≡ true
  pub new_closed : (s : ℕ) → after (Seq s) ≡ true → (before (Seq s) ≡ true) ⊎ AreMarkedFrom nodes after s 0
  pub new_reasons : (m : Member) → after m ≡ true → (before m ≡ true) ⊎ IsEntered nodes after m
