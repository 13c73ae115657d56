-- The records in three parts: those whose reports were written, the next one, and those that follow.
use Rattle.std.proofs.Common.{◌≡◌, ℕ, zero, suc, ◌+◌, ◌≤◌, List, [], ◌∷◌, ◌++◌, drop, length, slice_get, take, Some, refl, ap, arith}
use Rattle.std.proofs.lemmas.Option.{none-some, same_Some}

take-one : {X : Type 0} (xs : List X) (n m : ℕ) (x : X) → m ≡ n + 1 → slice_get xs n ≡ Some x →
    take m xs ≡ take n xs ++ x ∷ []
take-one [] n m x e h = absurd (none-some x h)
take-one (y ∷ ys) n zero x e h = absurd (omega (arith, e))
take-one (y ∷ ys) zero (suc zero) x e h = ap (λ z. z ∷ []) (same_Some y x h)
take-one (y ∷ ys) zero (suc (suc m)) x e h = absurd (omega (arith, e))
take-one (y ∷ ys) (suc n) (suc m) x e h = ap (λ l. y ∷ l) (take-one ys n m x (omega (arith, e)) h)

-- with the next one
pub take-next : {X : Type 0} (xs : List X) (n : ℕ) (x : X) → slice_get xs n ≡ Some x →
    take (n + 1) xs ≡ take n xs ++ x ∷ []
take-next xs n x h = take-one xs n (n + 1) x refl h

drop-one : {X : Type 0} (xs : List X) (n m : ℕ) (x : X) → m ≡ n + 1 → slice_get xs n ≡ Some x →
    drop n xs ≡ x ∷ drop m xs
drop-one [] n m x e h = absurd (none-some x h)
drop-one (y ∷ ys) n zero x e h = absurd (omega (arith, e))
drop-one (y ∷ ys) zero (suc zero) x e h = ap (λ z. z ∷ ys) (same_Some y x h)
drop-one (y ∷ ys) zero (suc (suc m)) x e h = absurd (omega (arith, e))
drop-one (y ∷ ys) (suc n) (suc m) x e h = drop-one ys n m x (omega (arith, e)) h

pub drop-next : {X : Type 0} (xs : List X) (n : ℕ) (x : X) → slice_get xs n ≡ Some x →
    drop n xs ≡ x ∷ drop (n + 1) xs
drop-next xs n x h = drop-one xs n (n + 1) x refl h

-- what comes behind all of them is in no front
pub take-front : {X : Type 0} (xs ys : List X) (n : ℕ) → n ≤ length xs → take n (xs ++ ys) ≡ take n xs
take-front xs ys zero h = refl
take-front [] ys (suc n) h = absurd (omega (arith, h))
take-front (x ∷ xs) ys (suc n) h = ap (λ l. x ∷ l) (take-front xs ys n (omega (arith, h)))

pub drop-all : {X : Type 0} (xs : List X) (n : ℕ) → n ≡ length xs → drop n xs ≡ []
drop-all [] zero h = refl
drop-all [] (suc n) h = refl
drop-all (x ∷ xs) zero h = absurd (omega (arith, h))
drop-all (x ∷ xs) (suc n) h = drop-all xs n (omega (arith, h))

pub take-all : {X : Type 0} (xs : List X) (n : ℕ) → n ≡ length xs → take n xs ≡ xs
take-all [] zero h = refl
take-all [] (suc n) h = refl
take-all (x ∷ xs) zero h = absurd (omega (arith, h))
take-all (x ∷ xs) (suc n) h = ap (λ l. x ∷ l) (take-all xs n (omega (arith, h)))
