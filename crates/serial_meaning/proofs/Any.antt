-- Whether some element of a list passes a test, element by element.
use Rattle.std.proofs.Common.{◌≡◌, ℕ, ◌+◌, ◌<◌, ◌≤◌, ◌||◌, Bool, true, false, List, length, get_or, take, sym, ap, ◌∙◌}
use Rattle.std.specs.List.{enumerate_from, list_any}
use Rattle.std.proofs.lemmas.List.{take_all}
use Rattle.std.proofs.lemmas.List.Folds.{list_any_at, list_any_more}
use Rattle.std.proofs.lemmas.List.FromFn.{length-enumerate_from}
use Rattle.serial_meaning.proofs.Joined.{numbered_at}

pub none_more : {X : Type 0} (test : X → Bool) (xs : List X) (i : ℕ) (d : X) → i < length xs →
    test (get_or xs i d) ≡ false → list_any test (take i xs) ≡ false → list_any test (take (i + 1) xs) ≡ false
none_more test xs i d h fails so_far = list_any_more test xs i d h ∙ ap (λ b. b || test (get_or xs i d)) so_far ∙ fails

pub none_all : {X : Type 0} (test : X → Bool) (xs : List X) (i : ℕ) → length xs ≤ i →
    list_any test (take i xs) ≡ false → list_any test xs ≡ false
none_all test xs i h so_far = ap (list_any test) (sym (take_all i xs h)) ∙ so_far

-- the same of elements with their numbers

pub numbered_none_more : {X : Type 0} (test : ℕ × X → Bool) (xs : List X) (i : ℕ) (x : X) → i < length xs →
    x ≡ get_or xs i x → test (i, x) ≡ false → list_any test (take i (enumerate_from 0 xs)) ≡ false →
    list_any test (take (i + 1) (enumerate_from 0 xs)) ≡ false
numbered_none_more test xs i x h e fails so_far =
    none_more test (enumerate_from 0 xs) i (i, x) (rw length-enumerate_from h)
    (ap test (numbered_at xs i x h e) ∙ fails) so_far

pub numbered_some : {X : Type 0} (test : ℕ × X → Bool) (xs : List X) (i : ℕ) (x : X) → i < length xs →
    x ≡ get_or xs i x → test (i, x) ≡ true → list_any test (enumerate_from 0 xs) ≡ true
numbered_some test xs i x h e passes =
    list_any_at test (enumerate_from 0 xs) i (i, x) (rw length-enumerate_from h)
    (ap test (numbered_at xs i x h e) ∙ passes)

pub numbered_none_all : {X : Type 0} (test : ℕ × X → Bool) (xs : List X) (i : ℕ) → length xs ≤ i →
    list_any test (take i (enumerate_from 0 xs)) ≡ false → list_any test (enumerate_from 0 xs) ≡ false
numbered_none_all test xs i h so_far = none_all test (enumerate_from 0 xs) i (rw length-enumerate_from h) so_far
