-- Elements of a list that is two lists joined.
use Rattle.std.proofs.Common.{◌≡◌, ℕ, suc, zero, ◌-◌, ◌<◌, ◌≤◌, List, [], ◌∷◌, ◌++◌, length, slice_get, refl, ap, ◌∙◌, arith}

-- an element of the front
pub slice_get-append_front : {X : Type 0} (xs ys : List X) (n : ℕ) → n < length xs → slice_get (xs ++ ys) n ≡ slice_get xs n
slice_get-append_front [] ys n h = absurd (omega arith)
slice_get-append_front (x ∷ xs) ys zero h = refl
slice_get-append_front (x ∷ xs) ys (suc n) h = slice_get-append_front xs ys n (omega arith)

-- an element behind the front
pub slice_get-append_back : {X : Type 0} (xs ys : List X) (n : ℕ) → length xs ≤ n → slice_get (xs ++ ys) n ≡ slice_get ys (n - length xs)
slice_get-append_back [] ys n h = ap (slice_get ys) (omega arith)
slice_get-append_back (x ∷ xs) ys zero h = absurd (omega arith)
slice_get-append_back (x ∷ xs) ys (suc n) h = slice_get-append_back xs ys n (omega arith) ∙ ap (slice_get ys) (omega arith)
