-- Lists of which one place changes: what stands there, sums, and counts of numbered elements.
use Rattle.std.proofs.Common.{◌≡◌, ◌≢◌, inl, inr, ℕ, zero, suc, ◌+◌, ◌<◌, Bool, false, cond, List, [], ◌∷◌, length, count_by, get_or, replicate, set, slice_get, Option, Some, None, refl, ap, ◌∙◌, subst, arith}
use Rattle.std.proofs.lemmas.Bool.{cases_lt, false_from_ne_true, or_parts}
use Rattle.std.proofs.lemmas.List.{set_past}
use Rattle.std.proofs.lemmas.List.Folds.{Any-from_list_any}
use Rattle.std.proofs.lemmas.List.Sums.{get_or-le-sum_by, sum_by-cons, sum_by-set}
use Rattle.std.proofs.lemmas.Option.{get_or_from_slice_get, none-some, same_Some, slice_get_past, slice_get_within}
use Rattle.std.specs.List.{enumerate_from, list_any, sum_by}
use Rattle.std.specs.Option.{option_flatten}

abbrev pub bit : Bool → ℕ
bit b = cond b 1 0

pub get-set_same : {X : Type 0} (xs : List X) (i : ℕ) (x : X) → i < length xs →
    slice_get (set xs i x) i ≡ Some x
get-set_same [] i x h = absurd (omega arith)
get-set_same (y ∷ ys) zero x h = refl
get-set_same (y ∷ ys) (suc i) x h = get-set_same ys i x (omega arith)

pub get-set_other : {X : Type 0} (xs : List X) (i j : ℕ) (x : X) → j ≢ i →
    slice_get (set xs i x) j ≡ slice_get xs j
get-set_other [] i j x h = refl
get-set_other (y ∷ ys) zero zero x h = absurd (h refl)
get-set_other (y ∷ ys) zero (suc j) x h = refl
get-set_other (y ∷ ys) (suc i) zero x h = refl
get-set_other (y ∷ ys) (suc i) (suc j) x h = get-set_other ys i j x (λ e. h (ap suc e))

-- an emptied place is empty, also where there is none
pub emptied : {X : Type 0} (xs : List (Option X)) (i : ℕ) → option_flatten
    (slice_get (set xs i None) i) ≡ None
emptied {X} xs i =
    elim (cases_lt i (length xs)) [
      | inl within ↦ ap option_flatten (get-set_same xs i None within)
      | inr past ↦ ap (λ (ys : List (Option X)). option_flatten (slice_get ys i)) (set_past xs i None past)
          ∙ ap option_flatten (slice_get_past xs i past)
    ]

pub flat-none : {X : Type 0} (n i : ℕ) → ◌≡◌ {A = Option X}
    (option_flatten (slice_get (replicate n None) i)) None
flat-none zero i = refl
flat-none (suc n) zero = refl
flat-none (suc n) (suc i) = flat-none n i

pub sum-changed : {X : Type 0} (f : X → ℕ) (xs : List X) (i : ℕ) (x y : X) → slice_get xs i ≡ Some x →
    sum_by f (set xs i y) + f x ≡ sum_by f xs + f y
sum-changed f xs i x y there =
    subst (λ z. sum_by f (set xs i y) + f z ≡ sum_by f xs + f y) (get_or_from_slice_get xs i x x there)
    (sum_by-set f xs i y x (slice_get_within xs i x there))

pub count-cons : {X : Type 0} (p : X → Bool) (x : X) (xs : List X) →
    count_by p (x ∷ xs) ≡ bit (p x) + count_by p xs
count-cons p x xs = sum_by-cons (λ y. bit (p y)) x xs

pub count-same : {X : Type 0} (p q : X → Bool) (xs : List X) → ((x : X) → p x ≡ q x) →
    count_by p xs ≡ count_by q xs
count-same p q [] h = refl
count-same p q (x ∷ xs) h =
    omega (arith, count-cons p x xs, count-cons q x xs, ap bit (h x), count-same p q xs h)

-- a count is 0 exactly where no element passes

pub count-none : {X : Type 0} (p : X → Bool) (xs : List X) → list_any p xs ≡ false → count_by p xs ≡ 0
count-none p [] h = refl
count-none p (x ∷ xs) h =
    let both = or_parts (p x) (list_any p xs) h in
    omega (arith, count-cons p x xs, ap bit both.0, count-none p xs both.1)

pub none-counted : {X : Type 0} (p : X → Bool) (xs : List X) → count_by p xs ≡ 0 → list_any p xs ≡ false
none-counted p xs none = false_from_ne_true (list_any p xs) (λ any.
    let it = Any-from_list_any p xs any in
    let one : bit (p (get_or xs it.0 it.1)) ≡ 1 = ap (λ y. bit (p y)) it.3 ∙ ap bit it.4 in
    let least = get_or-le-sum_by (λ y. bit (p y)) xs it.0 it.1 it.2 in
    absurd (omega (arith, one, least, none)))

-- numbered elements: two tests that agree but for one number

above : {X : Type 0} (p q : ℕ × X → Bool) (from number : ℕ) (xs : List X) → number < from →
    ((n : ℕ) (x : X) → n ≢ number → p (n, x) ≡ q (n, x)) →
    count_by p (enumerate_from from xs) ≡ count_by q (enumerate_from from xs)
above p q from number [] far same = refl
above p q from number (x ∷ xs) far same =
    let here = ap bit (same from x (λ e. absurd (omega (arith, e)))) in
    let rest = above p q (from + 1) number xs (omega arith) same in
    omega (
      arith,
      count-cons p (from, x) (enumerate_from (from + 1) xs),
      count-cons q (from, x) (enumerate_from (from + 1) xs),
      here,
      rest,
    )

pub one-other : {X : Type 0} (p q : ℕ × X → Bool) (from i number : ℕ) (xs : List X) (a : X) →
    slice_get xs i ≡ Some a → from + i ≡ number →
    ((n : ℕ) (x : X) → n ≢ number → p (n, x) ≡ q (n, x)) →
    count_by p (enumerate_from from xs) + bit (q (number, a))
    ≡ count_by q (enumerate_from from xs) + bit (p (number, a))
one-other p q from i number [] a there at same = absurd (none-some a there)
one-other p q from zero number (x ∷ xs) a there at same =
    let is : x ≡ a = same_Some x a there in
    let low : number < from + 1 = omega arith in
    let eq : from ≡ number = omega arith in
    let rest = above p q (from + 1) number xs low same in
    let at_p : bit (p (from, x)) ≡ bit (p (number, a)) = ap (λ (n : ℕ). bit (p (n, x))) eq
    ∙ ap (λ y. bit (p (number, y))) is in
    let at_q : bit (q (from, x)) ≡ bit (q (number, a)) = ap (λ (n : ℕ). bit (q (n, x))) eq
    ∙ ap (λ y. bit (q (number, y))) is in
    omega (
      arith,
      count-cons p (from, x) (enumerate_from (from + 1) xs),
      count-cons q (from, x) (enumerate_from (from + 1) xs),
      at_p,
      at_q,
      rest,
    )
one-other p q from (suc i) number (x ∷ xs) a there at same =
    let here = ap bit (same from x (λ e. absurd (omega (arith, e)))) in
    let rest = one-other p q (from + 1) i number xs a there (omega arith) same in
    omega (
      arith,
      count-cons p (from, x) (enumerate_from (from + 1) xs),
      count-cons q (from, x) (enumerate_from (from + 1) xs),
      here,
      rest,
    )
