-- Where a handle's product stands among the inputs and the outputs above.
use Rattle.std.proofs.Common.{◌≡◌, ℕ, zero, suc, ◌+◌, ◌-◌, ◌<◌, ◌≤◌, nat_eq, nat_lt, ◌&&◌, ◌⊎◌, Bool, true, false, List, [], ◌∷◌, ◌++◌, length, drop, get_or, None, slice_get, refl, sym, ap, ◌∙◌, length-append, inl, inr, arith}
use Rattle.std.specs.List.{zip, enumerate_from}
use Rattle.std.specs.Map.{lookup}
use Rattle.std.proofs.lemmas.Bool.{ltb-true, ltb-false}
use Rattle.std.proofs.lemmas.Bool.Decides.{Decides-eqb}
use Rattle.std.proofs.lemmas.List.{drop_all}
use Rattle.std.proofs.lemmas.Option.{slice_get_past}
use Rattle.hive_model.proofs.Numbers.{refuted}
use Rattle.hive_model.proofs.Lists.{slice_get-append_front, slice_get-append_back}
use Rattle.hive_model.specs.declared.product.Product.{Product}

abbrev Bound : Type 0
Bound = List (ℕ × Product)

-- the handle isn't bound by the inputs before an index
pub record IsFurther (h : ℕ) (handles : List ℕ) (inputs : List Product) (above : Bound) (index : ℕ) : Type 0 where
  pub same : lookup (nat_eq h) (zip handles inputs ++ above) ≡ lookup (nat_eq h) (zip (drop index handles) (drop index inputs) ++ above)

pub further-start : (h : ℕ) (handles : List ℕ) (inputs : List Product) (above : Bound) →
    IsFurther h handles inputs above 0
further-start h handles inputs above = record { same = refl }

zip-none : (handles : List ℕ) → zip {X = Product} handles [] ≡ []
zip-none [] = refl
zip-none (x ∷ handles) = refl

-- what is behind an index, where the handle isn't bound there
passed_other : (h : ℕ) (handles : List ℕ) (inputs : List Product) (above : Bound) (index : ℕ) →
    nat_eq h (get_or handles index 0) ≡ false →
    lookup (nat_eq h) (zip (drop index handles) (drop index inputs) ++ above) ≡ lookup (nat_eq h)
    (zip (drop (suc index) handles) (drop (suc index) inputs) ++ above)
passed_other h [] inputs above zero e = refl
passed_other h (x ∷ handles) [] above zero e = ap (λ them. lookup (nat_eq h) (them ++ above)) (sym (zip-none handles))
passed_other h (x ∷ handles) (y ∷ inputs) above zero e = rw e refl
passed_other h [] inputs above (suc index) e = refl
passed_other h (x ∷ handles) [] above (suc index) e =
    ap (λ them. lookup (nat_eq h) (them ++ above))
    (zip-none (drop index handles) ∙ sym (zip-none (drop (suc index) handles)))
passed_other h (x ∷ handles) (y ∷ inputs) above (suc index) e = passed_other h handles inputs above index e

passed_end : (h : ℕ) (handles : List ℕ) (inputs : List Product) (above : Bound) (index : ℕ) → length inputs ≤ index →
    lookup (nat_eq h) (zip (drop index handles) (drop index inputs) ++ above) ≡ lookup (nat_eq h)
    (zip (drop (suc index) handles) (drop (suc index) inputs) ++ above)
passed_end h handles inputs above index e =
    let here = ap (zip (drop index handles)) (drop_all index inputs e) ∙ zip-none (drop index handles) in
    let next = ap (zip (drop (suc index) handles)) (drop_all (suc index) inputs (omega arith)) ∙ zip-none (drop (suc index) handles) in
    ap (λ them. lookup (nat_eq h) (them ++ above)) (here ∙ sym next)

one_fails : (b c : Bool) → (b && c) ≡ false → (b ≡ false) ⊎ (c ≡ false)
one_fails true c e = inr e
one_fails false c e = inl refl

passed_by : (h : ℕ) (handles : List ℕ) (inputs : List Product) (above : Bound) (index : ℕ) →
    (nat_eq h (get_or handles index 0) ≡ false) ⊎ (nat_lt index (length inputs) ≡ false) →
    lookup (nat_eq h) (zip (drop index handles) (drop index inputs) ++ above) ≡ lookup (nat_eq h)
    (zip (drop (suc index) handles) (drop (suc index) inputs) ++ above)
passed_by h handles inputs above index (inl e) = passed_other h handles inputs above index e
passed_by h handles inputs above index (inr e) =
    passed_end h handles inputs above index (ltb-false index (length inputs) e)

pub further-next : (h : ℕ) (handles : List ℕ) (inputs : List Product) (above : Bound) (index : ℕ) →
    (nat_eq h (get_or handles index 0) && nat_lt index (length inputs)) ≡ false →
    IsFurther h handles inputs above index → IsFurther h handles inputs above (index + 1)
further-next h handles inputs above index e f =
    let next : suc index ≡ index + 1 = omega arith in
    record
    { same = f.same ∙ passed_by h handles inputs above index (one_fails _ _ e) ∙ ap (λ n. lookup (nat_eq h) (zip (drop n handles) (drop n inputs) ++ above)) next }

-- the handle is bound at an index
bound_there : (h : ℕ) (handles : List ℕ) (inputs : List Product) (above : Bound) (index : ℕ) → index < length handles →
    index < length inputs → nat_eq h (get_or handles index 0) ≡ true →
    slice_get inputs index ≡ lookup (nat_eq h) (zip (drop index handles) (drop index inputs) ++ above)
bound_there h [] inputs above index a b e = absurd (omega arith)
bound_there h (x ∷ handles) [] above index a b e = absurd (omega arith)
bound_there h (x ∷ handles) (y ∷ inputs) above zero a b e = rw e refl
bound_there h (x ∷ handles) (y ∷ inputs) above (suc index) a b e =
    bound_there h handles inputs above index (omega arith) (omega arith) e

both : (b c : Bool) → (b && c) ≡ true → (b ≡ true) × (c ≡ true)
both true c e = (refl, e)
both false c e = cc

pub bound_at : (h : ℕ) (handles : List ℕ) (inputs outputs : List Product) (above : Bound) (index : ℕ) →
    index < length handles → (nat_eq h (get_or handles index 0) && nat_lt index (length inputs)) ≡ true →
    IsFurther h handles inputs above index →
    (slice_get (inputs ++ outputs) index ≡ lookup (nat_eq h) (zip handles inputs ++ above)) ×
    (index < length (inputs ++ outputs))
bound_at h handles inputs outputs above index a e f =
    let parts = both _ _ e in
    let inside = ltb-true index (length inputs) parts.1 in
    let all = length-append inputs outputs in
    (slice_get-append_front inputs outputs index inside ∙ bound_there h handles inputs above index a inside parts.0 ∙ sym f.same, omega arith)

-- the handle is no input
no_input : (h : ℕ) (handles : List ℕ) (inputs : List Product) (above : Bound) (index : ℕ) → length handles ≤ index →
    IsFurther h handles inputs above index → lookup (nat_eq h) (zip handles inputs ++ above) ≡ lookup (nat_eq h) above
no_input h handles inputs above index a f =
    f.same ∙ ap (λ them. lookup (nat_eq h) (zip them (drop index inputs) ++ above)) (drop_all index handles a)

pub output_behind : (h : ℕ) (handles : List ℕ) (inputs outputs : List Product) (above : Bound) (index n : ℕ) →
    length handles ≤ index → IsFurther h handles inputs above index → (slice_get outputs n ≡ lookup (nat_eq h) above) →
    n < length outputs →
    (slice_get (inputs ++ outputs) (length inputs + n) ≡ lookup (nat_eq h) (zip handles inputs ++ above)) ×
    (length inputs + n < length (inputs ++ outputs))
output_behind h handles inputs outputs above index n a f e b =
    let all = length-append inputs outputs in
    let back : length inputs + n - length inputs ≡ n = omega arith in
    (slice_get-append_back inputs outputs (length inputs + n) (omega arith) ∙ ap (slice_get outputs) back ∙ e ∙ sym (no_input h handles inputs above index a f), omega arith)

pub bound_nowhere : (h : ℕ) (handles : List ℕ) (inputs : List Product) (above : Bound) (index : ℕ) →
    length handles ≤ index → IsFurther h handles inputs above index → lookup (nat_eq h) above ≡ None →
    lookup (nat_eq h) (zip handles inputs ++ above) ≡ None
bound_nowhere h handles inputs above index a f e = no_input h handles inputs above index a f ∙ e

-- outputs are numbered from the first one on

other : (m n : ℕ) → (m ≡ n → ⊥) → nat_eq m n ≡ false
other m n h = refuted (nat_eq m n) (λ e. h ((Decides-eqb m n).0 e))

pub output_at : (h first : ℕ) (outputs : List Product) (n : ℕ) → h ≡ first + n →
    slice_get outputs n ≡ lookup (nat_eq h) (enumerate_from first outputs)
output_at h first [] n e = refl
output_at h first (p ∷ outputs) zero e = rw ((Decides-eqb h first).1 (omega arith)) refl
output_at h first (p ∷ outputs) (suc n) e =
    rw (other h first (λ s. omega arith)) (output_at h (first + 1) outputs n (omega arith))

pub before_outputs : (h first : ℕ) (outputs : List Product) → h < first →
    lookup (nat_eq h) (enumerate_from first outputs) ≡ None
before_outputs h first [] e = refl
before_outputs h first (p ∷ outputs) e =
    rw (other h first (λ s. omega arith)) (before_outputs h (first + 1) outputs (omega arith))

pub output_past : (h first : ℕ) (outputs : List Product) (n : ℕ) → h ≡ first + n → length outputs ≤ n →
    lookup (nat_eq h) (enumerate_from first outputs) ≡ None
output_past h first outputs n e b = sym (output_at h first outputs n e) ∙ slice_get_past outputs n b
