-- Positions that are counted, and words that count modulo 2 ^ 64.
use Rattle.std.proofs.Common.{◌≡◌, ℕ, zero, suc, ◌+◌, ◌%◌, ◌^◌, ◌<◌, ◌≤◌, ◌==◌, All, cond, nat_lt, List, ◌∷◌, ◌++◌, ap, arith, add-zero, zero-add}
use Rattle.std.specs.List.{range_with_len}
use Rattle.std.proofs.lemmas.Bool.Decides.{nat_tests}
use Rattle.std.proofs.lemmas.List.Elements.{All-append, All-cons}
use Rattle.std.proofs.lemmas.List.Sums.{sum_by-cons, sum_by-append}
use Rattle.turn_lock.specs.History.{times, below}

pub times-append : (p : ℕ) (xs ys : List ℕ) → times p (xs ++ ys) ≡ times p xs + times p ys
times-append p xs ys = sum_by-append (λ q. cond (q == p) 1 0) xs ys

below-suc : (p n : ℕ) → cond (n == p) 1 0 + cond (nat_lt p n) 1 0 ≡ cond (nat_lt p (n + 1)) 1 0
below-suc p n = grind (arith, nat_tests)

-- `count` positions from `first` on: each stands once
pub times-range : (p first count : ℕ) → times p (range_with_len first count) + below p first ≡ below p (first + count)
times-range p first zero = rw add-zero (zero-add (below p first))
times-range p first (suc count) =
    let more : List ℕ = range_with_len (first + 1) count in
    let rest = times-range p (first + 1) count in
    let one : times p (first ∷ more) ≡ cond (first == p) 1 0 + times p more =
    sum_by-cons (λ q. cond (q == p) 1 0) first more in
    let end : (first + 1) + count ≡ first + suc count = omega arith in
    let last : below p ((first + 1) + count) ≡ below p (first + suc count) = ap (below p) end in
    omega (arith, below-suc p first)

range-inside : (first count new : ℕ) → first + count ≤ new → All (λ p. p < new) (range_with_len first count)
range-inside first zero new fits = λ k d within. absurd (omega arith)
range-inside first (suc count) new fits =
    let rest = range-inside (first + 1) count new (omega arith) in
    All-cons (λ p. p < new) first (range_with_len (first + 1) count) (omega arith) rest

-- positions in a history are positions in each longer one, and so are those that were added to it
pub own-inside : (own : List ℕ) (old new first count : ℕ) → All (λ p. p < old) own → old ≤ new → first + count ≤ new
    → All (λ p. p < new) (own ++ range_with_len first count)
own-inside own old new first count inside grows fits =
    let still : All (λ p. p < new) own = λ k d within. let h = inside k d within in omega arith in
    All-append (λ p. p < new) own (range_with_len first count) still (range-inside first count new fits)

-- a word that counts modulo 2 ^ 64 counts on
pub remainder-next : (n : ℕ) → (n % 2 ^ 64 + 1) % 2 ^ 64 ≡ (n + 1) % 2 ^ 64
remainder-next n = omega arith

pub remainder-small : (n : ℕ) → n < 2 ^ 64 → n % 2 ^ 64 ≡ n
remainder-small n small = omega arith
