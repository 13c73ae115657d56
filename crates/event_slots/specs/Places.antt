-- A record's cells are laid into a store from its first place on.
use Rattle.std.specs.Prelude.{◌≡◌, ℕ, ◌+◌, ◌<◌, List, [], ◌∷◌, Option, Some, None, slice_get, slice_set}
use Rattle.hive_model.specs.declared.product.Product.{Product}

-- the places of a store from one on are those of the cells that are there
abbrev pub laid : ℕ → List (Option Product) → List (Option Product) → List (Option Product)
laid handle [] places = places
laid handle (None ∷ cells) places = laid (handle + 1) cells places
laid handle (Some p ∷ cells) places = laid (handle + 1) cells (slice_set places handle (Some p))

-- so many places from one on are empty
abbrev pub AreEmpty : List (Option Product) → ℕ → ℕ → Type 0
AreEmpty places first count = (i : ℕ) → i < count → slice_get places (first + i) ≡ Some None
