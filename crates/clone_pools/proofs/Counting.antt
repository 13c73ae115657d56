-- The units that are out, after one loan more or one less.
use Rattle.std.proofs.Common.{◌≡◌, ℕ, ◌+◌, Bool, true, false, is_some, List, [], ◌∷◌, set, refl, ap, sym, ◌∙◌, cond, arith, Option, Some, None, slice_get}
use Rattle.std.specs.List.{count_by, sum_by}
use Rattle.std.proofs.lemmas.Bool.{ltb-true}
use Rattle.std.proofs.lemmas.List.Recursion.{is_count_by, is_sum_by}
use Rattle.std.proofs.lemmas.List.Sums.{sum_by-set}
use Rattle.std.proofs.lemmas.Option.{get_or_from_slice_get, slice_get_within}
use Rattle.std.specs.Option.{option_flatten}
use Rattle.clone_pools.specs.Loans.{Pool, IsFree, is_out, loans_of, with_loan, without_loan}

abbrev pub bit : Option ℕ → ℕ
bit place = cond (is_some place) 1 0

abbrev lent-in : List (Option ℕ) → ℕ
lent-in [] = 0
lent-in (x ∷ xs) = cond (is_some x) (1 + lent-in xs) (lent-in xs)

step-by-bit : (b : Bool) (n : ℕ) → cond b (1 + n) n ≡ cond b 1 0 + n
step-by-bit true n = refl
step-by-bit false n = omega arith

pub counted : (xs : List (Option ℕ)) → count_by is_some xs ≡ sum_by bit xs
counted xs =
    sym (is_count_by lent-in is_some refl (λ _ _. refl) xs)
    ∙ is_sum_by lent-in bit refl (λ x rest. step-by-bit (is_some x) (lent-in rest)) xs

count-set : (xs : List (Option ℕ)) (k : ℕ) (x y : Option ℕ) → slice_get xs k ≡ Some x →
    count_by is_some (set xs k y) + bit x ≡ count_by is_some xs + bit y
count-set xs k x y is =
    rw (counted xs, counted (set xs k y), ← ap bit (get_or_from_slice_get xs k x None is))
    (sum_by-set bit xs k y None (slice_get_within xs k x is))

pub loans-more : (p : Pool) (c : Option ℕ) (place : ℕ) → IsFree p c → loans_of (with_loan p c place) ≡ loans_of p + 1
loans-more p None place free = omega arith
loans-more p (Some k) place free = let e = count-set p.lent k None (Some place) free in omega arith

flat-some : (o : Option (Option ℕ)) → is_some (option_flatten o) ≡ true → (x : ℕ) × (o ≡ Some (Some x))
flat-some None is = cc
flat-some (Some None) is = cc
flat-some (Some (Some x)) is = (x, refl)

pub loans-less : (p : Pool) (c : Option ℕ) → is_out p c ≡ true → loans_of (without_loan p c) + 1 ≡ loans_of p
loans-less p None out = let some = ltb-true 0 p.running out in omega arith
loans-less p (Some k) out =
    let found = flat-some (slice_get p.lent k) out in
    let e = count-set p.lent k (Some found.0) None found.1 in omega arith
