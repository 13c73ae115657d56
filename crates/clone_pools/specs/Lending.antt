-- What the answers of `lend` mean, and what comes back.
use Rattle.std.specs.Prelude.{◌≡◌, ℕ, true, false, [], slice_get, IsSomeAnd}
use Rattle.hive_model.specs.Algorithm.{Algorithm}
use Rattle.hive_model.specs.Scratch.{Scratch, IsMadeFor}
use Rattle.hive_model.specs.declared.lent.Lent.{Lent as Loan}
use Rattle.clone_pools.specs.Loans.{Pool, Pools, IsFree, can_lend, is_free, is_reentrant, with_loan, with_pool, without_loan}
use Rattle.clone_pools.specs.Room.{room_of}
use Rattle.clone_pools.specs.declared.lend.Lend.{Lend}
use Rattle.clone_pools.specs.declared.lend.Lend.TheVariants.{Lent, NotFree, NoMemory}

-- the scratch is made for each algorithm that needs the pool's room
abbrev pub ServesAll : Pool → Scratch → Type 0
ServesAll p scratch = (a : Algorithm) → p.room ≡ room_of a → IsMadeFor a scratch

-- and for one of them, which suffices
abbrev pub ServesOne : Pool → Scratch → Type 0
ServesOne p scratch = (a : Algorithm) × (p.room ≡ room_of a) × IsMadeFor a scratch

-- a loan of the pool to the event at a place
pub record IsLoan (p : Pool) (number place : ℕ) (it : Loan) : Type 0 where
  pub algorithm : it.algorithm ≡ number
  pub free : IsFree p it.clone
  pub made_for : ServesAll p it.scratch
  pub inputs : it.scratch.inputs ≡ []

abbrev pub PoolSays : Pool → ℕ → ℕ → Lend → Pool → Type 0
PoolSays old number place (Lent it) new = IsLoan old number place it × (new ≡ with_loan old it.clone place)
PoolSays old number place NotFree new = (is_free old ≡ false) × (new ≡ old)
PoolSays old number place NoMemory new = (is_reentrant old ≡ true) × (new ≡ old)

abbrev pub LendSays : Pools → ℕ → ℕ → Lend → Pools → Type 0
LendSays old number place (Lent it) new =
    (can_lend old number ≡ true)
    × IsSomeAnd (slice_get old.pools number)
    (λ p. IsLoan p number place it × (new ≡ with_pool old number (with_loan p it.clone place)))
LendSays old number place NotFree new = (can_lend old number ≡ false) × (new ≡ old)
LendSays old number place NoMemory new =
    (can_lend old number ≡ true)
    × IsSomeAnd (slice_get old.pools number) (λ p. is_reentrant p ≡ true)
    × (new ≡ old)

-- what comes back is lent, and the scratch is made for its algorithm
abbrev pub ComesBack : Pools → Loan → Type 0
ComesBack it loan = IsSomeAnd (slice_get it.pools loan.algorithm) (λ p. ServesOne p loan.scratch)

abbrev pub GivenBack : Pools → Loan → Pools → Type 0
GivenBack old loan new =
    IsSomeAnd (slice_get old.pools loan.algorithm)
    (λ p. new ≡ with_pool old loan.algorithm (without_loan p loan.clone))
