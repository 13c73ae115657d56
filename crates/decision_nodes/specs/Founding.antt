-- How the places of all members are listed, one member after another.
use Rattle.std.specs.Prelude.{◌≡◌, ℕ, ◌⊎◌, List, length, Some, slice_get}
use Rattle.hive_model.specs.declared.sequence.Member.{Member}
use Rattle.decision_nodes.specs.Index.{IsAmong, places_of}
use Rattle.decision_nodes.specs.declared.edge.Edge.{Edge}

-- one place more
pub record AddsMember (leaves parents : List (List Edge)) (m : Member) (e : Edge)
    (more_leaves more_parents : List (List Edge)) : Type 0 where
  pub leaves_stay : length more_leaves ≡ length leaves
  pub parents_stay : length more_parents ≡ length parents
  pub more : (p : Edge) (k : Member) → IsAmong p (places_of leaves parents k)
      → IsAmong p (places_of more_leaves more_parents k)
  pub added : IsAmong e (places_of more_leaves more_parents m)
  pub only : (p : Edge) (k : Member) → IsAmong p (places_of more_leaves more_parents k)
      → IsAmong p (places_of leaves parents k) ⊎ ((p ≡ e) × (k ≡ m))

-- the place of the member of that number in the sequence
abbrev pub IsPlaceIn : ℕ → List Member → Edge → Member → Type 0
IsPlaceIn sequence members e m = (e.sequence ≡ sequence) × (slice_get members e.place ≡ Some m)

-- the places of all members of a sequence more
pub record AddsMembers (leaves parents : List (List Edge)) (sequence : ℕ) (members : List Member)
    (more_leaves more_parents : List (List Edge)) : Type 0 where
  pub leaves_stay : length more_leaves ≡ length leaves
  pub parents_stay : length more_parents ≡ length parents
  pub more : (p : Edge) (k : Member) → IsAmong p (places_of leaves parents k)
      → IsAmong p (places_of more_leaves more_parents k)
  pub added : (p : Edge) (k : Member) → IsPlaceIn sequence members p k
      → IsAmong p (places_of more_leaves more_parents k)
  pub only : (p : Edge) (k : Member) → IsAmong p (places_of more_leaves more_parents k)
      → IsAmong p (places_of leaves parents k) ⊎ IsPlaceIn sequence members p k
