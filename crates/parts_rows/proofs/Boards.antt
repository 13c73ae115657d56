-- Which slots are taken, where one is taken, emptied, or gets a product.
use Rattle.std.proofs.Common.{◌≡◌, ℕ, suc, zero, Bool, false, true, List, ◌∷◌, map, get_or, replicate}
use Rattle.std.proofs.Common.{is_some, ap, sym, refl, ◌∙◌, Option, Some, None, slice_get}
use Rattle.std.specs.Prelude.{IsSome, slice_set, unwrap_or}
use Rattle.std.specs.Option.{option_flatten}
use Rattle.std.proofs.Math.Seq.{map-set_same}
use Rattle.std.proofs.lemmas.List.{map-set}
use Rattle.std.proofs.lemmas.Option.{unwrap_or-slice_get}
use Rattle.hive_model.specs.declared.product.Product.{Product}
use Rattle.whiteboard.specs.Slots.{IsTaken, Products, Slots}
use Rattle.whiteboard.specs.Slots.{products_in, with_product, with_store, without_store}
use Rattle.parts_rows.specs.Taken.{IsBoardOf, taken_in}

abbrev empty_slots : ℕ → List (Option Products)
empty_slots n = replicate n None

pub none_taken : (n : ℕ) → map is_some (empty_slots n) ≡ replicate n false
none_taken zero = refl
none_taken (suc n) = ap (λ (rest : List Bool). false ∷ rest) (none_taken n)

flat : (o : Option (Option Products)) → option_flatten o ≡ unwrap_or o None
flat (Some x) = refl
flat None = refl

taken-at : (slots : List (Option Products)) (slot : ℕ) → IsSome (option_flatten (slice_get slots slot)) →
    is_some (get_or slots slot None) ≡ true
taken-at slots slot taken =
    ap is_some (sym (flat (slice_get slots slot) ∙ unwrap_or-slice_get slots slot None)) ∙ taken

pub product-taken : (board new : Slots) (slot handle : ℕ) (p : Product) → IsTaken board slot →
    new ≡ with_product board slot handle p → taken_in new ≡ taken_in board
product-taken board new slot handle p taken is =
    ap taken_in is
    ∙ map-set_same is_some board.slots slot (Some (slice_set (products_in board slot) handle (Some p))) None
    (sym (taken-at board.slots slot taken))

pub store-taken : (handles : ℕ) (board new : Slots) (taken : List Bool) (slot n : ℕ) (store : Products) →
    n ≡ slot → IsBoardOf handles board taken → new ≡ with_store board slot store →
    IsBoardOf handles new (slice_set taken n true)
store-taken handles board new taken slot n store same are is = (
  ap (λ (b : Slots). b.handles) is ∙ are.0,
  ap (λ (i : ℕ). slice_set taken i true) same ∙ ap (λ (them : List Bool). slice_set them slot true) are.1
      ∙ sym (map-set is_some board.slots slot (Some store)) ∙ sym (ap taken_in is),
)

pub emptied-taken : (handles : ℕ) (board new : Slots) (taken : List Bool) (slot n : ℕ) → n ≡ slot →
    IsBoardOf handles board taken → new ≡ without_store board slot →
    IsBoardOf handles new (slice_set taken n false)
emptied-taken handles board new taken slot n same are is = (
  ap (λ (b : Slots). b.handles) is ∙ are.0,
  ap (λ (i : ℕ). slice_set taken i false) same ∙ ap (λ (them : List Bool). slice_set them slot false) are.1
      ∙ sym (map-set is_some board.slots slot None) ∙ sym (ap taken_in is),
)
