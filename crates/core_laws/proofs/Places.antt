-- A place of a list of options, and what stands there after one was written.
use Rattle.std.proofs.Common.{◌≡◌, ◌≢◌, ℕ, zero, suc, ◌<◌, List, [], ◌∷◌, length, replicate, set, slice_get, Option, Some, None, refl, ap, arith}
use Rattle.std.specs.Option.{option_flatten}

pub get-set_same : {X : Type 0} (xs : List X) (i : ℕ) (x : X) → i < length xs →
    slice_get (set xs i x) i ≡ Some x
get-set_same [] i x h = absurd (omega arith)
get-set_same (y ∷ ys) zero x h = refl
get-set_same (y ∷ ys) (suc i) x h = get-set_same ys i x (omega arith)

pub get-set_other : {X : Type 0} (xs : List X) (i j : ℕ) (x : X) → j ≢ i →
    slice_get (set xs i x) j ≡ slice_get xs j
get-set_other [] i j x h = refl
get-set_other (y ∷ ys) zero zero x h = absurd (h refl)
get-set_other (y ∷ ys) zero (suc j) x h = refl
get-set_other (y ∷ ys) (suc i) zero x h = refl
get-set_other (y ∷ ys) (suc i) (suc j) x h = get-set_other ys i j x (λ e. h (ap suc e))

pub flat-set_same : {X : Type 0} (xs : List (Option X)) (i : ℕ) (o : Option X) → i < length xs →
    option_flatten (slice_get (set xs i o) i) ≡ o
flat-set_same xs i o h = ap option_flatten (get-set_same xs i o h)

pub flat-set_other : {X : Type 0} (xs : List (Option X)) (i j : ℕ) (o : Option X) → j ≢ i →
    option_flatten (slice_get (set xs i o) j) ≡ option_flatten (slice_get xs j)
flat-set_other xs i j o h = ap option_flatten (get-set_other xs i j o h)

pub flat-none : {X : Type 0} (n i : ℕ) → ◌≡◌ {A =
    Option X} (option_flatten (slice_get (replicate n None) i)) None
flat-none zero i = refl
flat-none (suc n) zero = refl
flat-none (suc n) (suc i) = flat-none n i

-- an emptied place is empty, also where there is none
pub emptied : {X : Type 0} (xs : List (Option X)) (i j : ℕ) → i ≡ j →
    option_flatten (slice_get (set xs i None) j) ≡ None
emptied [] i j e = refl
emptied (x ∷ xs) zero zero e = refl
emptied (x ∷ xs) zero (suc j) e = absurd (omega arith)
emptied (x ∷ xs) (suc i) zero e = absurd (omega arith)
emptied (x ∷ xs) (suc i) (suc j) e = emptied xs i j (omega arith)
