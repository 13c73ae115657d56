-- A claim takes its instance and its units from the pool of its algorithm.
use Rattle.std.proofs.Common.{◌≡◌, inl, inr, ℕ, ◌+◌, ◌<◌, nat_eq, is_some, is_none, List, length, length-set, set, slice_get, get_or, Option, Some, None, refl, ap, sym, subst, ◌∙◌, arith}
use Rattle.std.specs.Prelude.{IsSomeAnd, slice_set}
use Rattle.std.specs.Option.{option_eq, option_flatten}
use Rattle.std.proofs.lemmas.Bool.{cases_eq, eq-eqb, ne_eqb}
use Rattle.std.proofs.lemmas.Option.{slice_get-get_or, slice_get_within}
use Rattle.clone_pools.proofs.Counting.{loans-more}
use Rattle.clone_pools.specs.Lending.{IsLoan, LendSays}
use Rattle.clone_pools.specs.Loans.{IsFree, Pool, Pools, is_out, opening_pool, with_loan, with_pool}
use Rattle.clone_pools.specs.declared.lend.Lend.TheVariants.{Lent}
use Rattle.hive_model.specs.Algorithm.{Algorithm}
use Rattle.hive_model.specs.Enabled.{inputs_in}
use Rattle.hive_model.specs.Job.{Job}
use Rattle.hive_model.specs.Machine.{Busy, Outstanding, claim_at}
use Rattle.hive_model.specs.Step.{claimed}
use Rattle.hive_model.specs.declared.lent.Lent.{Lent as Loan}
use Rattle.loan_laws.proofs.Counting.{bit, get-set_other, get-set_same}
use Rattle.loan_laws.proofs.Moving.{PoolMoves, pools-moved}
use Rattle.loan_laws.proofs.Slots.{SlotMoves}
use Rattle.loan_laws.specs.Loans.{ArePoolsOf}

-- each algorithm has its pool
pub pool-there : (job : Job) (slots : List (Option Busy)) (it : Pools) (number : ℕ) (a : Algorithm) →
    ArePoolsOf job slots it → slice_get job.algorithms number ≡ Some a →
    (p : Pool) × (slice_get it.pools number ≡ Some p)
pool-there job slots it number a are algorithm =
    let within = slice_get_within job.algorithms number a algorithm in
    let within_too : number < length it.pools = omega (arith, within, are.as_many) in
    (get_or it.pools number (opening_pool a), slice_get-get_or it.pools number (opening_pool a) within_too)

-- the pool

lent-at : (p : Pool) (k place j : ℕ) → slice_get p.lent k ≡ Some None →
    bit (is_some (option_flatten (slice_get (set p.lent k (Some place)) j)))
    ≡ bit (is_out p (Some j)) + bit (nat_eq k j)
lent-at p k place j free =
    elim (cases_eq j k) [
      | inl eq ↦
          let new : slice_get (set p.lent k (Some place)) j ≡ Some (Some place) =
          ap (slice_get (set p.lent k (Some place))) eq
          ∙ get-set_same p.lent k (Some place) (slice_get_within p.lent k None free) in
          let old : slice_get p.lent j ≡ Some None = ap (slice_get p.lent) eq ∙ free in
          omega (
            arith,
            ap (λ (o : Option (Option ℕ)). bit (is_some (option_flatten o))) new,
            ap (λ (o : Option (Option ℕ)). bit (is_some (option_flatten o))) old,
            ap bit (eq-eqb k j (sym eq)),
          )
      | inr other ↦
          omega (
            arith,
            ap (λ (o : Option (Option ℕ)). bit (is_some (option_flatten o)))
                (get-set_other p.lent k j (Some place) other),
            ap bit (ne_eqb k j (λ e. other (sym e))),
          )
    ]

pub pool-lends : (p : Pool) (clone : Option ℕ) (place : ℕ) (own : Outstanding) → own.clone ≡ clone →
    IsFree p clone → PoolMoves p (with_loan p clone place) None (Some own)
pool-lends p None place own is free = record {
  resources = refl;
  room = refl;
  instances = refl;
  lent = λ k. omega (arith, ap (λ (o : Option ℕ). bit (option_eq nat_eq o (Some k))) is);
  running = omega (arith, ap (λ (o : Option ℕ). bit (is_none o)) is);
  loans = omega (arith, loans-more p None place free);
}
pool-lends p (Some k) place own is free = record {
  resources = refl;
  room = refl;
  instances = length-set p.lent k (Some place);
  lent = λ j. omega (
    arith,
    lent-at p k place j free,
    ap (λ (o : Option ℕ). bit (option_eq nat_eq o (Some j))) is,
  );
  running = omega (arith, ap (λ (o : Option ℕ). bit (is_none o)) is);
  loans = omega (arith, loans-more p (Some k) place free);
}

-- the slot

slot-claims : (b : Busy) (number : ℕ) (own : Outstanding) → claim_at b number ≡ None →
    number < length b.claims →
    SlotMoves number (Some b) (Some (record b { claims = set b.claims number (Some own) })) None (Some own)
slot-claims b number own none within = record {
  had = none;
  has = ap option_flatten (get-set_same b.claims number (Some own) within);
  others = λ n other. ap option_flatten (get-set_other b.claims number n (Some own) other);
}

pub pools-after-claim : (job : Job) (slots : List (Option Busy)) (it : Pools) (slot number : ℕ) (b : Busy)
    (a : Algorithm) (p : Pool) (clone : Option ℕ) (ticket place : ℕ) →
    ArePoolsOf job slots it → slice_get slots slot ≡ Some (Some b) →
    slice_get job.algorithms number ≡ Some a →
    claim_at b number ≡ None → number < length b.claims → slice_get it.pools number ≡ Some p →
    IsFree p clone →
    ArePoolsOf job (slice_set slots slot (Some (claimed b number a ticket clone)))
    (with_pool it number (with_loan p clone place))
unfolding claimed
pools-after-claim job slots it slot number b a p clone ticket place are there algorithm none within at free =
    let own : Outstanding =
    record { ticket = ticket; clone = clone; inputs = inputs_in b.store a.inputs } in
    pools-moved job slots it slot number (Some b)
    (Some (record b { claims = set b.claims number (Some own) })) a p (with_loan p clone place) None
    (Some own)
    are there algorithm at (slot-claims b number own none within) (pool-lends p clone place own refl free)

-- what lend's clause says where it lends
pub record Lends (it later : Pools) (number place : ℕ) (loan : Loan) : Type 0 where
  pub pool : Pool
  pub at : slice_get it.pools number ≡ Some pool
  pub is : IsLoan pool number place loan
  pub after : later ≡ with_pool it number (with_loan pool loan.clone place)

pub lend-said : (it later : Pools) (number place : ℕ) (loan : Loan) → LendSays it number place
    (Lent loan) later →
    Lends it later number place loan
lend-said it later number place loan says = by (slice_get it.pools number) refl says.1
  where
    by : (o : Option Pool) → slice_get it.pools number ≡ o →
        IsSomeAnd o (λ p. IsLoan p number place loan
        × (later ≡ with_pool it number (with_loan p loan.clone place))) →
        Lends it later number place loan
    by None at says = absurd says
    by (Some p) at says = record { pool = p; at = at; is = says.0; after = says.1 }

-- the same from lend's clause
pub pools-after-lend : (job : Job) (slots : List (Option Busy)) (it new : Pools) (slot number : ℕ) (b : Busy)
    (a : Algorithm) (loan : Loan) (ticket place : ℕ) →
    ArePoolsOf job slots it → slice_get slots slot ≡ Some (Some b) →
    slice_get job.algorithms number ≡ Some a →
    claim_at b number ≡ None → number < length b.claims → LendSays it number place (Lent loan) new →
    ArePoolsOf job (slice_set slots slot (Some (claimed b number a ticket loan.clone))) new
pools-after-lend job slots it new slot number b a loan ticket place are there algorithm none within says =
    let it_lends = lend-said it new number place loan says in
    subst (ArePoolsOf job (slice_set slots slot (Some (claimed b number a ticket loan.clone))))
    (sym it_lends.after)
    (pools-after-claim job slots it slot number b a it_lends.pool loan.clone ticket place are there
    algorithm none within it_lends.at it_lends.is.free)
