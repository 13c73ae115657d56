-- What an outstanding claim has is on loan, and where the claim ends it goes back.
use Rattle.std.proofs.Common.{◌≡◌, inl, inr, ℕ, ◌+◌, ◌≤◌, nat_eq, Bool, true, false, is_some, is_none, List, length-set, set, slice_get, get_or, Option, Some, None, refl, ap, sym, subst, ◌∙◌, arith}
use Rattle.std.specs.Prelude.{IsSomeAnd, slice_set}
use Rattle.std.specs.List.{count_by}
use Rattle.std.specs.Option.{option_eq, option_flatten, option_map_or}
use Rattle.std.proofs.lemmas.Bool.{cases_eq, eq-eqb, lt-ltb, ltb-true, ne_eqb}
use Rattle.std.proofs.lemmas.List.Sums.{get_or-le-sum_by}
use Rattle.std.proofs.lemmas.Option.{get_or_from_slice_get, slice_get_within}
use Rattle.clone_pools.proofs.Counting.{loans-less}
use Rattle.clone_pools.specs.Lending.{GivenBack}
use Rattle.clone_pools.specs.Loans.{Pool, Pools, is_lent, is_out, with_pool, without_loan}
use Rattle.hive_model.specs.Algorithm.{Algorithm}
use Rattle.hive_model.specs.Job.{Job}
use Rattle.hive_model.specs.Machine.{Busy, Outstanding, claim_at, claim_in}
use Rattle.hive_model.specs.declared.lent.Lent.{Lent as Loan}
use Rattle.loan_laws.proofs.Counting.{bit, emptied, get-set_other}
use Rattle.loan_laws.proofs.Moving.{PoolMoves, pools-moved}
use Rattle.loan_laws.proofs.OneClaim.{pool-there}
use Rattle.loan_laws.proofs.Slots.{SlotMoves, of_clone, of_none}
use Rattle.loan_laws.specs.Loans.{ArePoolsOf, IsPoolOf}

-- a claim counts

claim-counts : (test : Option Outstanding → Bool) (slots : List (Option Busy)) (slot number : ℕ) (b : Busy)
    (c : Outstanding) → slice_get slots slot ≡ Some (Some b) → claim_at b number ≡ Some c →
    test (Some c) ≡ true → 1 ≤ count_by (λ s. test (claim_in number s)) slots
claim-counts test slots slot number b c there claim passes =
    let least = get_or-le-sum_by (λ s. bit (test (claim_in number s))) slots slot None
    (slice_get_within slots slot (Some b) there) in
    let is : get_or slots slot None ≡ Some b = get_or_from_slice_get slots slot (Some b) None there in
    let one : bit (test (claim_in number (get_or slots slot None))) ≡ 1 =
    ap (λ (s : Option Busy). bit (test (claim_in number s))) is
    ∙ (ap (λ (o : Option Outstanding). bit (test o)) claim ∙ ap bit passes) in
    omega (arith, least, one)

one-bit : (b : Bool) → 1 ≤ bit b → b ≡ true
one-bit true h = refl
one-bit false h = absurd (omega arith)

pool-has : (slots : List (Option Busy)) (slot number : ℕ) (b : Busy) (a : Algorithm) (p : Pool)
    (c : Outstanding)
    (clone : Option ℕ) → slice_get slots slot ≡ Some (Some b) → claim_at b number ≡ Some c →
    c.clone ≡ clone → IsPoolOf slots number a p → is_out p clone ≡ true
pool-has slots slot number b a p c None there claim is pool =
    let one = claim-counts of_none slots slot number b c there claim (ap is_none is) in
    lt-ltb 0 p.running (omega (arith, one, pool.running))
pool-has slots slot number b a p c (Some k) there claim is pool =
    let one = claim-counts (of_clone k) slots slot number b c there claim
    (ap (λ (o : Option ℕ). option_eq nat_eq o (Some k)) is ∙ eq-eqb k k refl) in
    one-bit (is_out p (Some k)) (omega (arith, one, pool.lent k))

pub claim-is-lent : (job : Job) (slots : List (Option Busy)) (it : Pools) (slot number : ℕ) (b : Busy)
    (a : Algorithm) (c : Outstanding) →
    ArePoolsOf job slots it → slice_get slots slot ≡ Some (Some b) →
    slice_get job.algorithms number ≡ Some a →
    claim_at b number ≡ Some c → is_lent it number c.clone ≡ true
unfolding is_lent
claim-is-lent job slots it slot number b a c are there algorithm claim =
    let found = pool-there job slots it number a are algorithm in
    ap (λ (o : Option Pool). option_map_or (λ p. is_out p c.clone) o false) found.1
    ∙ pool-has slots slot number b a found.0 c c.clone there claim refl
    (are.pool number a found.0 algorithm found.1)

-- the pool

back-at : (p : Pool) (k j : ℕ) → is_out p (Some k) ≡ true →
    bit (is_some (option_flatten (slice_get (set p.lent k None) j))) + bit (nat_eq k j)
    ≡ bit (is_out p (Some j))
back-at p k j out =
    elim (cases_eq j k) [
      | inl eq ↦
          omega (
            arith,
            ap (λ (i : ℕ). bit (is_some (option_flatten (slice_get (set p.lent k None) i)))) eq,
            ap (λ (o : Option ℕ). bit (is_some o)) (emptied p.lent k),
            ap (λ (i : ℕ). bit (is_out p (Some i))) eq,
            ap bit out,
            ap bit (eq-eqb k j (sym eq)),
          )
      | inr other ↦
          omega (
            arith,
            ap (λ (o : Option (Option ℕ)). bit (is_some (option_flatten o)))
                (get-set_other p.lent k j None other),
            ap bit (ne_eqb k j (λ e. other (sym e))),
          )
    ]

pool-gets : (p : Pool) (clone : Option ℕ) (own : Outstanding) → own.clone ≡ clone → is_out p clone ≡ true →
    PoolMoves p (without_loan p clone) (Some own) None
pool-gets p None own is out = record {
  resources = refl;
  room = refl;
  instances = refl;
  lent = λ k. omega (arith, ap (λ (o : Option ℕ). bit (option_eq nat_eq o (Some k))) is);
  running = (let some = ltb-true 0 p.running out in
      omega (arith, some, ap (λ (o : Option ℕ). bit (is_none o)) is));
  loans = omega (arith, loans-less p None out);
}
pool-gets p (Some k) own is out = record {
  resources = refl;
  room = refl;
  instances = length-set p.lent k None;
  lent = λ j. omega (
    arith,
    back-at p k j out,
    ap (λ (o : Option ℕ). bit (option_eq nat_eq o (Some j))) is,
  );
  running = omega (arith, ap (λ (o : Option ℕ). bit (is_none o)) is);
  loans = omega (arith, loans-less p (Some k) out);
}

-- the slot

slot-ends : (b new : Busy) (number : ℕ) (c : Outstanding) → claim_at b number ≡ Some c →
    new.claims ≡ set b.claims number None → SlotMoves number (Some b) (Some new) (Some c) None
slot-ends b new number c claim is = record {
  had = claim;
  has = ap (λ (cs : List (Option Outstanding)). option_flatten (slice_get cs number)) is
      ∙ emptied b.claims number;
  others = λ n other. ap (λ (cs : List (Option Outstanding)). option_flatten (slice_get cs n)) is
      ∙ ap option_flatten (get-set_other b.claims number n None other);
}

pub pools-after-return : (job : Job) (slots : List (Option Busy)) (it : Pools) (slot number : ℕ)
    (b new : Busy)
    (a : Algorithm) (p : Pool) (c : Outstanding) →
    ArePoolsOf job slots it → slice_get slots slot ≡ Some (Some b) →
    slice_get job.algorithms number ≡ Some a →
    claim_at b number ≡ Some c → slice_get it.pools number ≡ Some p →
    new.claims ≡ slice_set b.claims number None →
    ArePoolsOf job (slice_set slots slot (Some new)) (with_pool it number (without_loan p c.clone))
pools-after-return job slots it slot number b new a p c are there algorithm claim at is =
    pools-moved job slots it slot number (Some b) (Some new) a p (without_loan p c.clone) (Some c) None
    are there algorithm at (slot-ends b new number c claim is)
    (pool-gets p c.clone c refl
    (pool-has slots slot number b a p c c.clone there claim refl (are.pool number a p algorithm at)))

-- the same from give_back's clause
pub pools-given-back : (job : Job) (slots : List (Option Busy)) (it later : Pools) (slot : ℕ) (b new : Busy)
    (a : Algorithm) (c : Outstanding) (loan : Loan) →
    ArePoolsOf job slots it → slice_get slots slot ≡ Some (Some b) →
    slice_get job.algorithms loan.algorithm ≡ Some a → claim_at b loan.algorithm ≡ Some c →
    c.clone ≡ loan.clone → GivenBack it loan later →
    new.claims ≡ slice_set b.claims loan.algorithm None →
    ArePoolsOf job (slice_set slots slot (Some new)) later
pools-given-back job slots it later slot b new a c loan are there algorithm claim same back is =
    by (slice_get it.pools loan.algorithm) refl back
  where
    by : (o : Option Pool) → slice_get it.pools loan.algorithm ≡ o →
        IsSomeAnd o (λ p. later ≡ with_pool it loan.algorithm (without_loan p loan.clone)) →
        ArePoolsOf job (slice_set slots slot (Some new)) later
    by None at back = absurd back
    by (Some p) at back =
        subst (ArePoolsOf job (slice_set slots slot (Some new)))
        (ap (λ (clone : Option ℕ). with_pool it loan.algorithm (without_loan p clone)) same ∙ sym back)
        (pools-after-return job slots it slot loan.algorithm b new a p c are there algorithm claim at is)
