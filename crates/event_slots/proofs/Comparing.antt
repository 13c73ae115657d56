-- Inputs that are compared with what a store holds, one after another.
use Rattle.std.proofs.Common.{◌≡◌, ℕ, zero, suc, nat_eq, ◌+◌, ◌<◌, ◌≤◌, List, [], ◌∷◌, drop, get_or, length, map, slice_get, Option, Some, None, refl, sym, ap, ◌∙◌, arith}
use Rattle.std.proofs.lemmas.Bool.Decides.{Decides-eqb}
use Rattle.std.proofs.lemmas.List.{drop_more}
use Rattle.std.proofs.lemmas.Option.{same_Some, slice_get-map, slice_get_read}
use Rattle.std.specs.Arc.{arc_value}
use Rattle.std.specs.Bool.{Decides}
use Rattle.std.specs.List.{cons_option}
use Rattle.std.specs.Option.{option_map}
use Rattle.std.specs.declared.alloc.Global.{Global}
use Rattle.std.specs.declared.sync.Arc.{Arc}
use Rattle.hive_model.specs.Enabled.{inputs_in, product_in}
use Rattle.hive_model.specs.declared.product.Product.{Product}

-- one input

pub input-at : (inputs : List (Arc Product Global)) (i : ℕ) (input : Arc Product Global) →
    i < length inputs → input ≡ get_or inputs i input →
    slice_get (map arc_value inputs) i ≡ Some (arc_value input)
input-at inputs i input within here =
    slice_get-map arc_value inputs i ∙ ap (option_map arc_value) (slice_get_read inputs (length inputs) i
    input refl within here)

-- the rest of a list

rest-at : {X : Type 0} (xs : List X) (i : ℕ) (x : X) → slice_get xs i ≡ Some x →
    drop i xs ≡ x ∷ drop (i + 1) xs
rest-at [] i x e = absurd (cc)
rest-at (y ∷ ys) zero x e = ap (λ z. z ∷ ys) (same_Some y x e)
rest-at (y ∷ ys) (suc i) x e =
    let next : suc (i + 1) ≡ suc i + 1 = omega arith in
    rest-at ys i x e ∙ ap (λ k. x ∷ drop k (y ∷ ys)) next

at-rest : {X : Type 0} (xs : List X) (i : ℕ) (x : X) (rest : List X) → drop i xs ≡ x ∷ rest →
    slice_get xs i ≡ Some x
at-rest [] zero x rest e = absurd (cc)
at-rest [] (suc i) x rest e = absurd (cc)
at-rest (y ∷ ys) zero x rest e = (let same : y ≡ x = cc in ap Some same)
at-rest (y ∷ ys) (suc i) x rest e = at-rest ys i x rest e

none-left : {X : Type 0} (xs : List X) (i : ℕ) → drop i xs ≡ [] → length xs ≤ i
none-left [] i e = omega arith
none-left (y ∷ ys) zero e = absurd (cc)
none-left (y ∷ ys) (suc i) e = omega (arith, none-left ys i e)

rest-past : {X : Type 0} (xs : List X) (i : ℕ) → length xs ≤ i → drop i xs ≡ []
rest-past [] zero past = refl
rest-past [] (suc i) past = refl
rest-past (y ∷ ys) zero past = absurd (omega arith)
rest-past (y ∷ ys) (suc i) past = rest-past ys i (omega arith)

-- what the store holds for the rest of the handles

held-rest : (store : List (Option Product)) (handles : List ℕ) (i : ℕ) (o : Option Product) →
    i < length handles →
    product_in store (get_or handles i 0) ≡ o →
    inputs_in store (drop i handles) ≡ cons_option o (inputs_in store (drop (i + 1) handles))
held-rest store handles i o within is =
    ap (inputs_in store) (drop_more handles i 0 within)
    ∙ ap (λ p. cons_option p (inputs_in store (drop (i + 1) handles))) is

-- The inputs are those of the store exactly where the rest of them is what it holds for the rest of the
-- handles.
pub record IsAsRest (xs : List Product) (store : List (Option Product)) (handles : List ℕ) (count index : ℕ)
    : Type 0 where
  pub to_rest : xs ≡ inputs_in store handles → drop count xs ≡ inputs_in store (drop index handles)
  pub to_all : drop count xs ≡ inputs_in store (drop index handles) → xs ≡ inputs_in store handles

pub past-none : (xs : List Product) (store : List (Option Product)) (handles : List ℕ) (count index : ℕ) →
    index < length handles →
    product_in store (get_or handles index 0) ≡ None → IsAsRest xs store handles count index → IsAsRest xs
    store handles count (index + 1)
past-none xs store handles count index within none it =
    let step = held-rest store handles index None within none in
    record { to_rest = λ e. it.to_rest e ∙ step; to_all = λ e. it.to_all (e ∙ sym step) }

tails : (p : Product) (xs ys : List Product) → p ∷ xs ≡ p ∷ ys → xs ≡ ys
tails p xs ys e = cc

pub past-some : (xs : List Product) (store : List (Option Product)) (handles : List ℕ) (count index : ℕ)
    (p : Product) →
    index < length handles → product_in store (get_or handles index 0) ≡ Some p → slice_get xs count ≡ Some p
    →
    IsAsRest xs store handles count index → IsAsRest xs store handles (count + 1) (index + 1)
past-some xs store handles count index p within some at it =
    let step = held-rest store handles index (Some p) within some in
    let rest = rest-at xs count p at in
    record {
      to_rest = λ e. tails p (drop (count + 1) xs) (inputs_in store (drop (index + 1) handles)) (sym rest
          ∙ it.to_rest e ∙ step);
      to_all = λ e. it.to_all (rest ∙ ap (λ ys. p ∷ ys) e ∙ sym step);
    }

-- a product that isn't there
pub other-input : (xs : List Product) (store : List (Option Product)) (handles : List ℕ) (count index : ℕ)
    (p : Product) →
    index < length handles → product_in store (get_or handles index 0) ≡ Some p → IsAsRest xs store handles
    count index →
    xs ≡ inputs_in store handles → slice_get xs count ≡ Some p
other-input xs store handles count index p within some it e =
    at-rest xs count p (inputs_in store (drop (index + 1) handles)) (it.to_rest e
    ∙ held-rest store handles index (Some p) within some)

-- all handles were looked at
pub compared : (xs : List Product) (store : List (Option Product)) (handles : List ℕ) (count index : ℕ) →
    length handles ≤ index →
    count ≤ length xs → IsAsRest xs store handles count index → Decides (nat_eq count (length xs)) (xs ≡
    inputs_in store handles)
compared xs store handles count index past few it =
    let none = ap (inputs_in store) (rest-past handles index past) in
    let eq = Decides-eqb count (length xs) in (
      λ e. it.to_all (rest-past xs count (let same : count ≡ length xs = eq.0 e in omega arith) ∙ sym none),
      λ e. eq.1 (let all = none-left xs count (it.to_rest e ∙ none) in omega (arith, few, all)),
    )
