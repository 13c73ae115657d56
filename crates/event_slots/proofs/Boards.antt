-- One slot's store on the whiteboard, where a product is put into it.
use Rattle.std.proofs.Common.{◌≡◌, ℕ, ◌+◌, ◌≤◌, List, [], ◌∷◌, ◌++◌, length, set, slice_get, Option, Some, None, IsSome, refl, sym, ap, subst, ◌∙◌, unwrap_or, arith}
use Rattle.std.specs.Option.{option_flatten}
use Rattle.std.proofs.lemmas.List.{set-set, set-get_or}
use Rattle.std.proofs.lemmas.Option.{get_or_from_slice_get, slice_get_within}
use Rattle.loan_laws.proofs.Counting.{get-set_same}
use Rattle.hive_model.specs.Step.{written}
use Rattle.hive_model.specs.declared.product.Product.{Product}
use Rattle.whiteboard.specs.Slots.{IsTaken, Products, Slots, products_in, store_in, with_product, with_store}
use Rattle.event_slots.specs.Places.{AreEmpty, laid}
use Rattle.event_slots.proofs.Laying.{fewer-empty, laid-last, still-empty, written-last}

-- the store of a taken slot

pub flat-there : {X : Type 0} (xs : List (Option X)) (i : ℕ) (x : X) →
    option_flatten (slice_get xs i) ≡ Some x →
    slice_get xs i ≡ Some (Some x)
flat-there {X} xs i x e = by (slice_get xs i) refl e
  where
    by : (o : Option (Option X)) → slice_get xs i ≡ o → option_flatten o ≡ Some x →
        slice_get xs i ≡ Some (Some x)
    by None was e = absurd (cc)
    by (Some it) was e = was ∙ ap Some e

pub some-there : {X : Type 0} (o : Option X) → IsSome o → (x : X) × (o ≡ Some x)
some-there None is = absurd (cc)
some-there (Some x) is = (x, refl)

-- a store that was put into a taken slot stands there

stored : (board : Slots) (slot : ℕ) (store : Products) → IsTaken board slot →
    store_in (with_store board slot store) slot ≡ Some store
stored board slot store taken =
    let it = some-there (store_in board slot) taken in
    ap option_flatten (get-set_same board.slots slot (Some store)
    (slice_get_within board.slots slot (Some it.0) (flat-there board.slots slot it.0 it.1)))

products-stored : (board : Slots) (slot : ℕ) (store : Products) → IsTaken board slot →
    products_in (with_store board slot store) slot ≡ store
products-stored board slot store taken = ap (λ o. unwrap_or o []) (stored board slot store taken)

taken-stored : (board : Slots) (slot : ℕ) (store : Products) → IsTaken board slot →
    IsTaken (with_store board slot store) slot
taken-stored board slot store taken = subst IsSome (sym (stored board slot store taken)) refl

pub stored-twice : (board : Slots) (slot : ℕ) (store other : Products) →
    with_store (with_store board slot store) slot other ≡ with_store board slot other
stored-twice board slot store other =
    ap (λ (them : List (Option Products)). record board { slots = them }) (set-set board.slots slot (Some
    store) (Some other))

-- a turn that puts the last product of those that are left

put-turn : (board later : Slots) (slot first count more handle : ℕ) (p : Product) (change : Products →
    Products) →
    IsTaken board slot → AreEmpty (products_in board slot) first more → count ≤ more → handle ≡ first + count
    →
    later ≡ with_product board slot handle p →
    IsTaken later slot × AreEmpty (products_in later slot) first count
    × (with_store later slot (change (products_in later slot))
    ≡ with_store board slot (change (set (products_in board slot) handle (Some p))))
put-turn board later slot first count more handle p change taken empty less at is =
    let store : Products = set (products_in board slot) handle (Some p) in
    let shown : products_in later slot ≡ store = ap (λ b. products_in b slot) is
    ∙ products-stored board slot store taken in (
      subst (λ b. IsTaken b slot) (sym is) (taken-stored board slot store taken),
      subst (λ places. AreEmpty places first count) (sym shown)
          (still-empty (products_in board slot) first count handle (Some p) (omega arith)
          (fewer-empty (products_in board slot) first count more less empty)),
      ap (λ b. with_store b slot (change (products_in later slot))) is
          ∙ stored-twice board slot store (change (products_in later slot))
          ∙ ap (λ places. with_store board slot (change places)) shown,
    )

pub output-put : (board later : Slots) (slot first more handle : ℕ) (ps : List Product) (p : Product) →
    IsTaken board slot → AreEmpty (products_in board slot) first more → length ps ≤ more → handle ≡ first +
    length ps →
    later ≡ with_product board slot handle p →
    IsTaken later slot × AreEmpty (products_in later slot) first (length ps)
    × (with_store later slot (written first ps (products_in later slot))
    ≡ with_store board slot (written first (ps ++ p ∷ []) (products_in board slot)))
output-put board later slot first more handle ps p taken empty less at is =
    let it = put-turn board later slot first (length ps) more handle p (written first ps) taken empty less at
    is in (
      it.0,
      it.1,
      it.2
          ∙ ap (λ h. with_store board slot (written first ps (set (products_in board slot) h (Some p)))) at
          ∙ ap (with_store board slot) (sym (written-last first ps (products_in board slot) p)),
    )

pub cell-put : (board later : Slots) (slot more handle : ℕ) (cells : Products) (p : Product) →
    IsTaken board slot → AreEmpty (products_in board slot) 0 more → length cells ≤ more → handle ≡ length
    cells →
    later ≡ with_product board slot handle p →
    IsTaken later slot × AreEmpty (products_in later slot) 0 (length cells)
    × (with_store later slot (laid 0 cells (products_in later slot))
    ≡ with_store board slot (laid 0 (cells ++ Some p ∷ []) (products_in board slot)))
cell-put board later slot more handle cells p taken empty less at is =
    let it = put-turn board later slot 0 (length cells) more handle p (laid 0 cells) taken empty less (omega
    arith) is in (
      it.0,
      it.1,
      it.2
          ∙ ap (λ h. with_store board slot (laid 0 cells (set (products_in board slot) h (Some p)))) (omega
          arith)
          ∙ ap (with_store board slot) (sym (laid-last 0 cells (products_in board slot) p)),
    )

pub same-store : (board : Slots) (slot : ℕ) → IsTaken board slot →
    with_store board slot (products_in board slot) ≡ board
same-store board slot taken =
    let it = some-there (store_in board slot) taken in
    let there = flat-there board.slots slot it.0 it.1 in
    let shown : products_in board slot ≡ it.0 = ap (λ o. unwrap_or o []) it.1 in
    ap (with_store board slot) shown
    ∙ ap (λ (them : List (Option Products)). record board { slots = them })
    (ap (set board.slots slot) (sym (get_or_from_slice_get board.slots slot (Some it.0) None there))
    ∙ set-get_or board.slots slot None)
