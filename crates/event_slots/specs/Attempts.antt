-- The steps of a claim: what can be claimed in one event, and what the pools lend for it.
use Rattle.std.specs.Prelude.{◌≡◌, ℕ, ◌<◌, ◌≤◌, true, false, ◌&&◌, List, length, Option, Some, slice_get, IsSomeAnd, MatchOption}
use Rattle.std.specs.Arc.{arc_value}
use Rattle.clone_pools.specs.Lending.{LendSays}
use Rattle.clone_pools.specs.Loans.{Pools, can_lend}
use Rattle.clone_pools.specs.declared.lend.Lend.TheVariants.{Lent as Lending}
use Rattle.hive_model.specs.Algorithm.{Algorithm}
use Rattle.hive_model.specs.Enabled.{inputs_in}
use Rattle.hive_model.specs.Job.{Job}
use Rattle.hive_model.specs.Lending.{is_free, has_units}
use Rattle.hive_model.specs.Machine.{Busy}
use Rattle.hive_model.specs.Scratch.{IsMadeFor}
use Rattle.hive_model.specs.Step.{can_claim}
use Rattle.hive_model.specs.declared.lent.Lent.{Lent as Loan}
use Rattle.hive_model.specs.declared.product.Product.{Product}
use Rattle.event_slots.specs.Claiming.{IsTaken, OneMayBeClaimed, may_claim}
use Rattle.event_slots.specs.Slots.{Slots, busy_in}
use Rattle.event_slots.specs.declared.borrowed.Borrowed.{Borrowed}
use Rattle.event_slots.specs.declared.borrowed.Borrowed.TheVariants.{Lent, NotFree, NoMemory}
use Rattle.event_slots.specs.declared.taken.Taken.{Taken}
use Rattle.event_slots.specs.declared.taken.Taken.TheVariants.{Job as Taking, Nothing, NoMemory as NoRoom}

-- what is lent holds the inputs, and the pools are those after some loan of that instance
pub record IsBorrowed (old : Pools) (store : List (Option Product)) (a : Algorithm) (number place : ℕ)
    (lent : Loan) (new : Pools) : Type 0 where
  pub algorithm : lent.algorithm ≡ number
  pub inputs : lent.scratch.inputs ≡ inputs_in store a.inputs
  pub made_for : IsMadeFor a lent.scratch
  pub loan : Loan
  pub same : loan.clone ≡ lent.clone
  pub lends : LendSays old number place (Lending loan) new

abbrev pub BorrowSays : Pools → List (Option Product) → Algorithm → ℕ → ℕ → Borrowed → Pools → Type 0
BorrowSays old store a number place (Lent body lent) new =
    (arc_value body ≡ a) × IsBorrowed old store a number place lent new
BorrowSays old store a number place NotFree new = (can_lend old number ≡ false) × (new ≡ old)
BorrowSays old store a number place NoMemory new = (can_lend old number ≡ true) × (new ≡ old)

-- the first algorithm from a number on that can be claimed in the slot's event
abbrev pub IsNextIn : Job → List (Option Busy) → ℕ → ℕ → Option ℕ → Type 0
IsNextIn job slots slot from it =
    MatchOption it
    ((b : Busy) (n : ℕ) → busy_in slots slot ≡ Some b → from ≤ n → n < length job.algorithms →
    can_claim job b n ≡ false)
    (λ number. (from ≤ number) × (number < length job.algorithms)
    × IsSomeAnd (busy_in slots slot) (λ b. can_claim job b number ≡ true)
    × ((b : Busy) (n : ℕ) → busy_in slots slot ≡ Some b → from ≤ n → n < number → can_claim job b n ≡ false))

-- no algorithm below a number may be claimed in the slot's event
abbrev pub AreRefused : Job → List (Option Busy) → ℕ → ℕ → Type 0
AreRefused job slots slot limit =
    (b : Busy) (a : Algorithm) (n : ℕ) (clone : Option ℕ) → busy_in slots slot ≡ Some b → n < limit
    → slice_get job.algorithms n ≡ Some a → may_claim job slots b n a clone ≡ false

-- an attempt at one algorithm of the slot's event
abbrev pub TakenAt : Job → List (Option Busy) → ℕ → ℕ → ℕ → Slots → Taken → Slots → Type 0
TakenAt job slots ticket slot number old (Taking at v) new = (at ≡ slot) × IsTaken job slots ticket at v new
TakenAt job slots ticket slot number old Nothing new =
    (new ≡ old) × ((a : Algorithm) (clone : Option ℕ) → slice_get job.algorithms number ≡ Some a
    → (is_free slots number a clone && has_units job slots a) ≡ false)
TakenAt job slots ticket slot number old NoRoom new = (new ≡ old) × OneMayBeClaimed job slots

-- an attempt at the slot's event
abbrev pub TakenIn : Job → List (Option Busy) → ℕ → ℕ → Slots → Taken → Slots → Type 0
TakenIn job slots ticket slot old (Taking at v) new = (at ≡ slot) × IsTaken job slots ticket at v new
TakenIn job slots ticket slot old Nothing new =
    (new ≡ old) × AreRefused job slots slot (length job.algorithms)
TakenIn job slots ticket slot old NoRoom new = (new ≡ old) × OneMayBeClaimed job slots
