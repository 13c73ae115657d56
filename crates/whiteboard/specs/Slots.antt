-- Slots with the stores of events. A slot is empty, or taken by one event, whose store has a place for each handle.
use Rattle.std.specs.Prelude.{◌≡◌, ℕ, List, [], Option, Some, None, IsSome, slice_get, slice_set, unwrap_or}
use Rattle.std.specs.Option.{option_flatten}
use Rattle.hive_model.specs.declared.product.Product.{Product}

-- the products of one event, by handle
abbrev pub Products : Type 0
Products = List (Option Product)

pub record Slots : Type 0 where
  pub slots : List (Option Products)
  -- how many places a store has
  pub handles : ℕ

abbrev pub store_in : Slots → ℕ → Option Products
store_in board slot = option_flatten (slice_get board.slots slot)

abbrev pub IsTaken : Slots → ℕ → Type 0
IsTaken board slot = IsSome (store_in board slot)

-- the products of a taken slot
abbrev pub products_in : Slots → ℕ → Products
products_in board slot = unwrap_or (store_in board slot) []

abbrev pub IsFreePlace : Slots → ℕ → ℕ → Type 0
IsFreePlace board slot handle = slice_get (products_in board slot) handle ≡ Some None

-- the slot has that store, and all others are as before
abbrev pub with_store : Slots → ℕ → Products → Slots
with_store board slot store = record board { slots = slice_set board.slots slot (Some store) }

-- the slot's store has one product more
abbrev pub with_product : Slots → ℕ → ℕ → Product → Slots
with_product board slot handle product =
    with_store board slot (slice_set (products_in board slot) handle (Some product))

abbrev pub without_store : Slots → ℕ → Slots
without_store board slot = record board { slots = slice_set board.slots slot None }
