-- Sums over a list in which one element changed, or of which one element has all.
use Rattle.std.proofs.Common.{◌≡◌, ℕ, zero, suc, ◌+◌, ◌≤◌, List, [], ◌∷◌, set, sum_by, refl, sym, ap, arith}
use Rattle.std.proofs.lemmas.List.Sums.{sum_by-cons}
use mathlib.Core.Option.{some, some-injective, some-ne-none}
use lib.ListN.{get_elem?}

module _ {A : Type 0} (f : A → ℕ) where
  pub sum_by-set_at : (xs : List A) (i : ℕ) (v w : A) → get_elem? xs i ≡ some v
      → sum_by f (set xs i w) + f v ≡ sum_by f xs + f w
  sum_by-set_at [] i v w at = absurd (some-ne-none v (sym at))
  sum_by-set_at (x ∷ xs) zero v w at =
      let is : f x ≡ f v = ap f (some-injective x v at) in
      omega (arith, sum_by-cons f w xs, sum_by-cons f x xs)
  sum_by-set_at (x ∷ xs) (suc i) v w at =
      omega (arith, sum_by-set_at xs i v w at, sum_by-cons f x (set xs i w), sum_by-cons f x xs)

  -- one element's part is at most the sum
  pub part-le : (xs : List A) (i : ℕ) (v : A) → get_elem? xs i ≡ some v → f v ≤ sum_by f xs
  part-le [] i v at = absurd (some-ne-none v (sym at))
  part-le (x ∷ xs) zero v at =
      let is : f x ≡ f v = ap f (some-injective x v at) in
      omega (arith, sum_by-cons f x xs)
  part-le (x ∷ xs) (suc i) v at = omega (arith, part-le xs i v at, sum_by-cons f x xs)

module _ {A : Type 0} (f g : A → ℕ) where
  pub sum_by-le_each : (xs : List A) → ((j : ℕ) (u : A) → get_elem? xs j ≡ some u → f u ≤ g u)
      → sum_by f xs ≤ sum_by g xs
  sum_by-le_each [] each = omega arith
  sum_by-le_each (x ∷ xs) each =
      let first : f x ≤ g x = each 0 x refl in
      let rest = sum_by-le_each xs (λ j u at. each (suc j) u at) in
      omega (arith, sum_by-cons f x xs, sum_by-cons g x xs)

-- where f is 0 of each element without weight
module _ {A : Type 0} (weight f : A → ℕ) where
  sum_by-none : (xs : List A) → ((j : ℕ) (u : A) → get_elem? xs j ≡ some u → weight u ≡ 0 → f u ≡ 0)
      → sum_by weight xs ≡ 0 → sum_by f xs ≡ 0
  sum_by-none [] each none = refl
  sum_by-none (x ∷ xs) each none =
      let all = sum_by-cons weight x xs in
      let first : f x ≡ 0 = each 0 x refl (omega arith) in
      let rest = sum_by-none xs (λ j u at. each (suc j) u at) (omega arith) in
      omega (arith, sum_by-cons f x xs)

  -- who has the whole weight has all of f
  pub alone : (xs : List A) (i : ℕ) (v : A)
      → ((j : ℕ) (u : A) → get_elem? xs j ≡ some u → weight u ≡ 0 → f u ≡ 0)
      → get_elem? xs i ≡ some v → sum_by weight xs ≡ weight v → sum_by f xs ≡ f v
  alone [] i v each at whole = absurd (some-ne-none v (sym at))
  alone (x ∷ xs) zero v each at whole =
      let weight_is : weight x ≡ weight v = ap weight (some-injective x v at) in
      let is : f x ≡ f v = ap f (some-injective x v at) in
      let all = sum_by-cons weight x xs in
      let rest = sum_by-none xs (λ j u at. each (suc j) u at) (omega arith) in
      omega (arith, sum_by-cons f x xs)
  alone (x ∷ xs) (suc i) v each at whole =
      let all = sum_by-cons weight x xs in
      let part = part-le weight xs i v at in
      let first : f x ≡ 0 = each 0 x refl (omega arith) in
      let rest = alone xs i v (λ j u at. each (suc j) u at) at (omega arith) in
      omega (arith, sum_by-cons f x xs)
