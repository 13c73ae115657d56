-- Where each member stands: the places of all algorithms and sequences, by number.
use Rattle.std.specs.Prelude.{◌≡◌, ℕ, ◌⊎◌, ◌<◌, ◌≤◌, List, [], ◌∷◌, length, map, Some, slice_get, slice_index_or}
use Rattle.hive_model.specs.Many.{Many}
use Rattle.hive_model.specs.Sequence.{Sequence}
use Rattle.hive_model.specs.declared.limits.TheConstants.{MOST_ALGORITHMS, MOST_DEPTH}
use Rattle.hive_model.specs.declared.sequence.Member.{Member}
use Rattle.hive_model.specs.declared.sequence.Member.TheVariants.{Alg, Seq}
use Rattle.decision_nodes.specs.Marks.{IsNested}
use Rattle.decision_nodes.specs.declared.edge.Edge.{Edge}

abbrev pub items_of : List (Many Edge) → List (List Edge)
items_of lists = map (λ (them : Many Edge). them.items) lists

-- the place is one of these
abbrev pub IsAmong : Edge → List Edge → Type 0
IsAmong e [] = ⊥
IsAmong e (x ∷ xs) = (x ≡ e) ⊎ IsAmong e xs

-- the member stands at that place
pub record StandsAt (sequences : List Sequence) (e : Edge) (m : Member) : Type 0 where
  pub node : Sequence
  pub there : slice_get sequences e.sequence ≡ Some node
  pub stands : slice_get node.members e.place ≡ Some m

-- some member stands there
abbrev pub IsPlace : List Sequence → Edge → Type 0
IsPlace sequences e = (m : Member) × StandsAt sequences e m

-- the places of that number, in lists of places
abbrev pub places_at : List (List Edge) → ℕ → List Edge
places_at lists number = slice_index_or lists number []

abbrev pub places_of : List (List Edge) → List (List Edge) → Member → List Edge
places_of leaves parents (Alg a) = places_at leaves a
places_of leaves parents (Seq s) = places_at parents s

pub record IsIndex (sequences : List Sequence) (leaves parents : List (List Edge)) : Type 0 where
  pub covers : (e : Edge) (m : Member) → StandsAt sequences e m → IsAmong e (places_of leaves parents m)
  pub right : (e : Edge) (m : Member) → IsAmong e (places_of leaves parents m) → StandsAt sequences e m

-- a member by its number
abbrev pub IsIn : ℕ → ℕ → Member → Type 0
IsIn algorithms sequences (Alg a) = a < algorithms
IsIn algorithms sequences (Seq s) = s < sequences

-- a forest as a valid job has it, with the places of the sequences in it
pub record IsForest (sequences : List Sequence) (algorithms : ℕ) (parents : List (List Edge)) : Type 0 where
  pub nested : (s : ℕ) → s < length sequences → IsNested MOST_DEPTH sequences (Seq s)
  pub members : (e : Edge) (m : Member) → StandsAt sequences e m → IsIn algorithms (length sequences) m
  pub few_algorithms : algorithms ≤ MOST_ALGORITHMS
  pub few_sequences : length sequences ≤ MOST_ALGORITHMS
  pub all_parents : length parents ≡ length sequences
  pub parents_cover : (e : Edge) (s : ℕ) → StandsAt sequences e (Seq s) → IsAmong e (places_at parents s)
  pub parents_right : (e : Edge) (s : ℕ) → IsAmong e (places_at parents s) → StandsAt sequences e (Seq s)
