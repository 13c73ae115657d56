-- Counting what passes a test.
use Rattle.std.proofs.Common.{◌≡◌, ◌≢◌, ℕ, zero, suc, ◌+◌, ◌<◌, ◌≤◌, nat_eq, Bool, true, false, ◌||◌, cond, List, [], ◌∷◌, count_by, slice_get, Some, refl, ap, ◌∙◌, arith}
use Rattle.std.proofs.lemmas.Bool.{and_parts, eqb-true}
use Rattle.std.proofs.lemmas.List.Sums.{sum_by-cons}
use Rattle.std.proofs.lemmas.Option.{same_Some, none-some}
use Rattle.std.specs.List.{enumerate_from, list_all, list_any}

abbrev pub one_if : Bool → ℕ
one_if b = cond b 1 0

pub count-cons : {X : Type 0} (p : X → Bool) (x : X) (xs : List X) →
    count_by p (x ∷ xs) ≡ one_if (p x) + count_by p xs
count-cons p x xs = sum_by-cons (λ y. cond (p y) 1 0) x xs

pub count-le : {X : Type 0} (p q : X → Bool) (xs : List X) → ((x : X) → one_if (p x) ≤ one_if (q x)) →
    count_by p xs ≤ count_by q xs
count-le p q [] h = omega arith
count-le p q (x ∷ xs) h = omega (arith, count-cons p x xs, count-cons q x xs, h x, count-le p q xs h)

pub count-none : {X : Type 0} (p : X → Bool) (xs : List X) → ((x : X) → one_if (p x) ≡ 0) → count_by p xs ≡ 0
count-none p [] h = refl
count-none p (x ∷ xs) h = omega (arith, count-cons p x xs, h x, count-none p xs h)

any-parts : (a b : Bool) → (a || b) ≡ false → (a ≡ false) × (b ≡ false)
any-parts true b h = absurd (cc)
any-parts false b h = (refl, h)

pub count-any : {X : Type 0} (p : X → Bool) (xs : List X) → list_any p xs ≡ false → count_by p xs ≡ 0
count-any p [] h = refl
count-any p (x ∷ xs) h =
    let both = any-parts (p x) (list_any p xs) h in
    omega (arith, count-cons p x xs, ap one_if both.0, count-any p xs both.1)

-- numbered elements: two tests that agree but for one number

above : {X : Type 0} (p q : ℕ × X → Bool) (from number : ℕ) (xs : List X) → number < from →
    ((n : ℕ) (x : X) → n ≢ number → p (n, x) ≡ q (n, x)) →
    count_by p (enumerate_from from xs) ≡ count_by q (enumerate_from from xs)
above p q from number [] far same = refl
above p q from number (x ∷ xs) far same =
    let here = ap one_if (same from x (λ e. absurd (omega (arith, e)))) in
    let rest = above p q (from + 1) number xs (omega arith) same in
    omega (
      arith,
      count-cons p (from, x) (enumerate_from (from + 1) xs),
      count-cons q (from, x)
          (enumerate_from (from + 1) xs),
      here,
      rest,
    )

pub one-more : {X : Type 0} (p q : ℕ × X → Bool) (from i number : ℕ) (xs : List X) (a : X) →
    slice_get xs i ≡ Some a →
    from + i ≡ number → ((n : ℕ) (x : X) → n ≢ number → p (n, x) ≡ q (n, x)) →
    count_by p (enumerate_from from xs) ≤ count_by q (enumerate_from from xs) + one_if (p (number, a))
one-more p q from i number [] a there at same = absurd (none-some a there)
one-more p q from zero number (x ∷ xs) a there at same =
    let is : x ≡ a = same_Some x a there in
    let low : number < from + 1 = omega arith in
    let eq : from ≡ number = omega arith in
    let rest = above p q (from + 1) number xs low same in
    let here : one_if (p (from, x)) ≡ one_if (p (number, a)) = ap (λ (n : ℕ). one_if (p (n, x))) eq
    ∙ ap (λ y. one_if (p (number, y))) is in
    omega (
      arith,
      count-cons p (from, x) (enumerate_from (from + 1) xs),
      count-cons q (from, x)
          (enumerate_from (from + 1) xs),
      here,
      rest,
    )
one-more p q from (suc i) number (x ∷ xs) a there at same =
    let here = ap one_if (same from x (λ e. absurd (omega (arith, e)))) in
    let rest = one-more p q (from + 1) i number xs a there (omega arith) same in
    omega (
      arith,
      count-cons p (from, x) (enumerate_from (from + 1) xs),
      count-cons q (from, x)
          (enumerate_from (from + 1) xs),
      here,
      rest,
    )

-- a test that all pass is passed by each number among them
pub all-among : (p : ℕ → Bool) (r : ℕ) (rs : List ℕ) → list_all p rs ≡ true → list_any (nat_eq r) rs ≡ true →
    p r ≡ true
all-among p r [] all h = absurd (cc)
all-among p r (s ∷ rs) all h =
    let both = and_parts (p s) (list_all p rs) all in
    by (nat_eq r s) refl h both.0 (all-among p r rs both.1)
  where
    by : (t : Bool) → nat_eq r s ≡ t → (t || list_any (nat_eq r) rs) ≡ true → p s ≡ true →
        (list_any (nat_eq r) rs ≡ true → p r ≡ true) → p r ≡ true
    by true e h first later = ap p (eqb-true r s e) ∙ first
    by false e h first later = later h
