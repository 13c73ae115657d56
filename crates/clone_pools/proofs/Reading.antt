-- The pool of a number.
use Rattle.std.proofs.Common.{◌≡◌, ℕ, ◌<◌, List, length, get_or, ap, sym, subst, ◌∙◌, ⊎_elim, Option, Some, slice_get}
use Rattle.std.specs.Prelude.{IsSomeAnd, slice_set}
use Rattle.std.proofs.lemmas.Option.{get_or_from_slice_get, slice_get_cases, slice_get_read}
use Rattle.hive_model.specs.declared.lent.Lent.{Lent}
use Rattle.clone_pools.specs.Lending.{GivenBack}
use Rattle.clone_pools.specs.Loans.{Pool, Pools, with_pool, without_loan}

abbrev pub shown : List Pool → List ℕ → Pools
shown pools units = record { pools = pools; units = units }

pub some-within : (pools : List Pool) (n : ℕ) (P : Pool → Type 0) → IsSomeAnd (slice_get pools n) P → n < length pools
some-within pools n P is =
    ⊎_elim (λ h. h.1) (λ h. absurd (subst (λ (o : Option Pool). IsSomeAnd o P) h.1 is)) (slice_get_cases pools n).1

pub pool-inside : (it : Pools) (pools : List Pool) (units : List ℕ) (n m : ℕ) (p : Pool) → shown pools units ≡ it → m ≡ n → n < length it.pools →
    p ≡ get_or pools m p → slice_get pools m ≡ Some p
pool-inside it pools units n m p view same within at =
    slice_get_read pools (length it.pools) m p (sym (ap (λ (x : Pools). length x.pools) view)) (subst (λ (i : ℕ). i < length it.pools) (sym same) within) at

pub pool-shown : (it : Pools) (pools : List Pool) (units : List ℕ) (n m : ℕ) (p : Pool) → shown pools units ≡ it → m ≡ n →
    slice_get pools m ≡ Some p → slice_get it.pools n ≡ Some p
pool-shown it pools units n m p view same at =
    ap (λ (i : ℕ). slice_get it.pools i) (sym same) ∙ ap (λ (x : Pools). slice_get x.pools m) (sym view) ∙ at

pub with-pool : (it : Pools) (pools : List Pool) (units : List ℕ) (n m : ℕ) (p q : Pool) → shown pools units ≡ it → m ≡ n → p ≡ q →
    shown (slice_set pools m p) units ≡ with_pool it n q
with-pool it pools units n m p q view same is =
    ap (λ (x : Pools). with_pool x m p) view ∙ ap (λ (i : ℕ). with_pool it i p) same ∙ ap (with_pool it n) is

-- read twice
pub same-pool : (pools : List Pool) (m : ℕ) (p q : Pool) → slice_get pools m ≡ Some p → q ≡ get_or pools m q → q ≡ p
same-pool pools m p q at read = read ∙ get_or_from_slice_get pools m p q at

pub given-back : (it new : Pools) (loan : Lent) (p : Pool) → slice_get it.pools loan.algorithm ≡ Some p →
    new ≡ with_pool it loan.algorithm (without_loan p loan.clone) → GivenBack it loan new
given-back it new loan p at is =
    subst (λ (o : Option Pool). IsSomeAnd o (λ q. new ≡ with_pool it loan.algorithm (without_loan q loan.clone))) (sym at) is
