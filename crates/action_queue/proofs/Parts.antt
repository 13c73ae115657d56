-- The parts of all passes, after one of them changed, and where one of them has all.
use Rattle.std.proofs.Common.{◌≡◌, ◌≢◌, ℕ, zero, suc, ◌+◌, ◌≤◌, ◌<◌, List, [], ◌∷◌, length, get_or, set, sum_by, refl, sym, ap, arith}
use Rattle.std.proofs.lemmas.List.Sums.{sum_by-cons, sum_by-set, get_or-le-sum_by}
use mathlib.Core.Option.{some, some-injective, some-ne-none}
use lib.ListN.{get_elem?}

module _ {A : Type 0} where
  -- an element that is there has an index in range
  located : (xs : List A) (i : ℕ) (v : A) → get_elem? xs i ≡ some v → (i < length xs) × (get_or xs i v ≡ v)
  located [] i v at = absurd (some-ne-none v (sym at))
  located (x ∷ xs) zero v at = (omega arith, some-injective x v at)
  located (x ∷ xs) (suc i) v at = let h = located xs i v at in (omega (arith, h.0), h.1)

module _ {A : Type 0} (f : A → ℕ) where
  pub sum_set : (xs : List A) (i : ℕ) (v w : A) → get_elem? xs i ≡ some v
      → sum_by f (set xs i w) + f v ≡ sum_by f xs + f w
  sum_set xs i v w at =
      let h = located xs i v at in
      let is : f (get_or xs i v) ≡ f v = ap f h.1 in
      let all = sum_by-set f xs i w v h.0 in
      omega arith

  -- one element's part is at most the sum
  pub part_le : (xs : List A) (i : ℕ) (v : A) → get_elem? xs i ≡ some v → f v ≤ sum_by f xs
  part_le xs i v at =
      let h = located xs i v at in
      let is : f (get_or xs i v) ≡ f v = ap f h.1 in
      let all = get_or-le-sum_by f xs i v h.0 in
      omega arith

  -- where one element has the whole sum the others have nothing
  pub others_none : (xs : List A) (i : ℕ) (v : A) → get_elem? xs i ≡ some v → sum_by f xs ≡ f v
      → (j : ℕ) (u : A) → j ≢ i → get_elem? xs j ≡ some u → f u ≡ 0
  others_none [] i v at whole j u apart there = absurd (some-ne-none v (sym at))
  others_none (x ∷ xs) zero v at whole zero u apart there = absurd (apart refl)
  others_none (x ∷ xs) zero v at whole (suc j) u apart there =
      let is : f x ≡ f v = ap f (some-injective x v at) in
      let part = part_le xs j u there in
      omega (arith, sum_by-cons f x xs)
  others_none (x ∷ xs) (suc i) v at whole zero u apart there =
      let is : f x ≡ f u = ap f (some-injective x u there) in
      let part = part_le xs i v at in
      omega (arith, sum_by-cons f x xs)
  others_none (x ∷ xs) (suc i) v at whole (suc j) u apart there =
      let part = part_le xs i v at in
      let rest : sum_by f xs ≡ f v = omega (arith, sum_by-cons f x xs) in
      others_none xs i v at rest j u (λ same. apart (ap suc same)) there
