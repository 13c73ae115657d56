-- Counting in a list of which one element changes.
use Rattle.std.proofs.Common.{◌≡◌, ℕ, zero, suc, ◌+◌, ◌*◌, ◌<◌, Bool, true, false, ◌||◌, cond, List, [], ◌∷◌, ◌++◌, length, count_by, replicate, set, slice_get, Option, Some, None, refl, ap, sym, ◌∙◌, subst, arith}
use Rattle.std.proofs.lemmas.List.Folds.{sum_by-replicate}
use Rattle.std.proofs.lemmas.List.Sums.{sum_by-set, sum_by_push}
use Rattle.std.proofs.lemmas.Option.{get_or_from_slice_get, none-some, same_Some, slice_get_within}
use Rattle.std.specs.List.{AllByRecursion, list_any}
use Rattle.std.specs.Option.{option_flatten}
use Rattle.core_laws.proofs.Counting.{count-cons, one_if}

pub count-set : {X : Type 0} (p : X → Bool) (xs : List X) (i : ℕ) (old new : X) → slice_get xs i ≡ Some old →
    count_by p (set xs i new) + one_if (p old) ≡ count_by p xs + one_if (p new)
count-set p xs i old new there =
    let within = slice_get_within xs i old there in
    ap (λ x. count_by p (set xs i new) + one_if (p x)) (sym (get_or_from_slice_get xs i old old there))
    ∙ sum_by-set (λ x. cond (p x) 1 0) xs i new old within

pub count-last : {X : Type 0} (p : X → Bool) (xs : List X) (x : X) →
    count_by p (xs ++ x ∷ []) ≡ count_by p xs + one_if (p x)
count-last p xs x = sum_by_push (λ y. cond (p y) 1 0) xs x

pub count-replicate : {X : Type 0} (p : X → Bool) (n : ℕ) (x : X) → p x ≡ true →
    count_by p (replicate n x) ≡ n
count-replicate p n x h =
    let all = sum_by-replicate (λ y. cond (p y) 1 0) n x in
    let one : one_if (p x) ≡ 1 = ap one_if h in
    all ∙ (ap (λ k. n * k) one ∙ omega arith)

pub count-replicate_none : {X : Type 0} (p : X → Bool) (n : ℕ) (x : X) → p x ≡ false →
    count_by p (replicate n x) ≡ 0
count-replicate_none p n x h =
    let all = sum_by-replicate (λ y. cond (p y) 1 0) n x in
    let none : one_if (p x) ≡ 0 = ap one_if h in
    all ∙ (ap (λ k. n * k) none ∙ omega arith)

-- what a place of a list of options holds

pub there-some : {X : Type 0} (xs : List (Option X)) (i : ℕ) (x : X) →
    option_flatten (slice_get xs i) ≡ Some x →
    slice_get xs i ≡ Some (Some x)
there-some [] i x h = absurd (none-some x h)
there-some (o ∷ xs) zero x h = ap Some h
there-some (o ∷ xs) (suc i) x h = there-some xs i x h

pub there-none : {X : Type 0} (xs : List (Option X)) (i : ℕ) → option_flatten (slice_get xs i) ≡ None →
    i < length xs →
    slice_get xs i ≡ Some None
there-none [] i h within = absurd (omega (arith, within))
there-none (o ∷ xs) zero h within = ap Some h
there-none (o ∷ xs) (suc i) h within = there-none xs i h (omega (arith, within))

-- a test that none passes

pub none-passes : {X : Type 0} (p : X → Bool) (xs : List X) → count_by p xs ≡ 0 → list_any p xs ≡ false
none-passes p [] h = refl
none-passes p (x ∷ xs) h = by (p x) refl (none-passes p xs)
  where
    by : (t : Bool) → p x ≡ t → (count_by p xs ≡ 0 → list_any p xs ≡ false) → list_any p (x ∷ xs) ≡ false
    by true e rest = absurd (omega (arith, h, count-cons p x xs, ap one_if e))
    by false e rest =
        ap (λ t. t || list_any p xs) e ∙ rest (omega (arith, h, count-cons p x xs))

-- an element within a list

pub record IsAt {X : Type 0} (xs : List X) (i : ℕ) : Type 0 where
  pub it : X
  pub there : slice_get xs i ≡ Some it

pub at-within : {X : Type 0} (xs : List X) (i : ℕ) → i < length xs → IsAt xs i
at-within [] i h = absurd (omega (arith, h))
at-within (x ∷ xs) zero h = record { it = x; there = refl }
at-within (x ∷ xs) (suc i) h =
    let later = at-within xs i (omega (arith, h)) in
    record { it = later.it; there = later.there }

pub all-at : {X : Type 0} (P : X → Type 0) (xs : List X) (i : ℕ) (x : X) → AllByRecursion P xs →
    slice_get xs i ≡ Some x → P x
all-at P [] i x all there = absurd (none-some x there)
all-at P (y ∷ xs) zero x all there = subst P (same_Some y x there) all.0
all-at P (y ∷ xs) (suc i) x all there = all-at P xs i x all.1 there

-- an element that passes a test
pub record Passes {X : Type 0} (p : X → Bool) (xs : List X) : Type 0 where
  pub it : X
  pub index : ℕ
  pub there : slice_get xs index ≡ Some it
  pub passes : p it ≡ true

pub one-passes : {X : Type 0} (p : X → Bool) (xs : List X) → list_any p xs ≡ true → Passes p xs
one-passes p [] h = absurd (cc)
one-passes p (x ∷ xs) h = by (p x) refl h (one-passes p xs)
  where
    by : (t : Bool) → p x ≡ t → (t || list_any p xs) ≡ true → (list_any p xs ≡ true → Passes p xs) →
        Passes p (x ∷ xs)
    by true e h rest = record { it = x; index = 0; there = refl; passes = e }
    by false e h rest =
        let later = rest h in
        record { it = later.it; index = suc later.index; there = later.there; passes = later.passes }
