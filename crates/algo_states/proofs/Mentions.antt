-- How often a number stands in a list: one further, and after a push.
use Rattle.std.proofs.Common.{◌≡◌, ℕ, zero, suc, ◌+◌, ◌<◌, ◌≤◌, Bool, true, false, List, [], ◌∷◌, ◌++◌, length, get_or, take, refl, ap, sym, ◌∙◌, cond, arith}
use Rattle.std.specs.List.{count_by}
use Rattle.std.proofs.lemmas.List.Recursion.{is_count_by}
use Rattle.std.proofs.lemmas.List.Sums.{count_by_more_no, count_by_more_yes}

abbrev pub bit : Bool → ℕ
bit b = cond b 1 0

abbrev tally : {X : Type 0} → (X → Bool) → List X → ℕ
tally p [] = 0
tally p (x ∷ xs) = cond (p x) (1 + tally p xs) (tally p xs)

pub count-none : {X : Type 0} (p : X → Bool) → count_by p [] ≡ 0
count-none p = sym (is_count_by (tally p) p refl (λ _ _. refl) [])

step-by-bit : (b : Bool) (n : ℕ) → cond b (1 + n) n ≡ bit b + n
step-by-bit true n = refl
step-by-bit false n = omega arith

pub count-cons : {X : Type 0} (p : X → Bool) (x : X) (xs : List X) → count_by p (x ∷ xs) ≡ bit (p x) + count_by p xs
count-cons p x xs =
    sym (is_count_by (tally p) p refl (λ _ _. refl) (x ∷ xs)) ∙ step-by-bit (p x) (tally p xs)
    ∙ ap (λ (n : ℕ). bit (p x) + n) (is_count_by (tally p) p refl (λ _ _. refl) xs)

pub count-push : {X : Type 0} (p : X → Bool) (xs : List X) (y : X) → count_by p (xs ++ y ∷ []) ≡ count_by p xs + bit (p y)
count-push p [] y = let one = count-cons p y [] in let none = count-none p in omega arith
count-push p (x ∷ xs) y =
    let before = count-cons p x xs in let after = count-cons p x (xs ++ y ∷ []) in let rest = count-push p xs y in omega arith

more-by : {X : Type 0} (p : X → Bool) (xs : List X) (i : ℕ) (d : X) (b : Bool) → i < length xs → p (get_or xs i d) ≡ b →
    count_by p (take (i + 1) xs) ≡ count_by p (take i xs) + bit b
more-by p xs i d true lt e = count_by_more_yes p xs i d lt e
more-by p xs i d false lt e = let same = count_by_more_no p xs i d lt e in omega arith

pub count-more : {X : Type 0} (p : X → Bool) (xs : List X) (i : ℕ) (d : X) → i < length xs →
    count_by p (take (i + 1) xs) ≡ count_by p (take i xs) + bit (p (get_or xs i d))
count-more p xs i d lt = more-by p xs i d (p (get_or xs i d)) lt refl

pub count-take : {X : Type 0} (p : X → Bool) (n : ℕ) (xs : List X) → count_by p (take n xs) ≤ count_by p xs
count-take p zero xs = let none = count-none p in omega arith
count-take p (suc n) [] = omega arith
count-take p (suc n) (x ∷ xs) =
    let part = count-cons p x (take n xs) in let whole = count-cons p x xs in let rest = count-take p n xs in omega arith
