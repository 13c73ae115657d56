-- What was lent may come back, and where it comes back at once all is as before.
use Rattle.std.proofs.Common.{◌≡◌, ℕ, ◌+◌, ◌-◌, true, false, is_some, List, set, slice_get, Option, Some, None, refl, ap, sym, subst, ◌∙◌, arith}
use Rattle.std.specs.Prelude.{IsSomeAnd}
use Rattle.std.specs.Option.{option_flatten, option_map_or}
use Rattle.std.proofs.lemmas.Bool.{lt-ltb}
use Rattle.std.proofs.lemmas.List.{set-get_or, set-set}
use Rattle.std.proofs.lemmas.Option.{get_or_from_slice_get, slice_get_within}
use Rattle.clone_pools.specs.Lending.{ComesBack, GivenBack, IsLoan, LendSays, ServesOne}
use Rattle.clone_pools.specs.Loans.{IsFree, Pool, Pools, is_lent, is_out, with_loan, with_pool, without_loan}
use Rattle.clone_pools.specs.declared.lend.Lend.TheVariants.{Lent}
use Rattle.hive_model.specs.Algorithm.{Algorithm}
use Rattle.hive_model.specs.Job.{Job}
use Rattle.hive_model.specs.Machine.{Busy}
use Rattle.hive_model.specs.Scratch.{IsMadeFor, Scratch}
use Rattle.hive_model.specs.declared.lent.Lent.{Lent as Loan}
use Rattle.loan_laws.proofs.Counting.{get-set_same}
use Rattle.loan_laws.proofs.OneClaim.{lend-said, pool-there}
use Rattle.loan_laws.specs.Loans.{ArePoolsOf, IsPoolOf}

-- what was lent is lent

out-then : (p : Pool) (clone : Option ℕ) (place : ℕ) → IsFree p clone →
    is_out (with_loan p clone place) clone ≡ true
out-then p None place free = lt-ltb 0 (p.running + 1) (omega arith)
out-then p (Some k) place free =
    ap (λ (o : Option (Option ℕ)). is_some (option_flatten o))
    (get-set_same p.lent k (Some place) (slice_get_within p.lent k None free))

pool-then : (it : Pools) (number : ℕ) (p q : Pool) → slice_get it.pools number ≡ Some p →
    slice_get (with_pool it number q).pools number ≡ Some q
pool-then it number p q at = get-set_same it.pools number q (slice_get_within it.pools number p at)

pub loan-is-lent : (it : Pools) (number place : ℕ) (p : Pool) (clone : Option ℕ) →
    slice_get it.pools number ≡ Some p → IsFree p clone →
    is_lent (with_pool it number (with_loan p clone place)) number clone ≡ true
unfolding is_lent
loan-is-lent it number place p clone at free =
    ap (λ (o : Option Pool). option_map_or (λ x. is_out x clone) o false)
    (pool-then it number p (with_loan p clone place) at)
    ∙ out-then p clone place free

-- and back at once, all is as before

pool-as-before : (p : Pool) (clone : Option ℕ) (place : ℕ) → IsFree p clone →
    without_loan (with_loan p clone place) clone ≡ p
pool-as-before p None place free =
    let same : p.running + 1 - 1 ≡ p.running = omega arith in
    ap (λ (n : ℕ). record p { running = n }) same
pool-as-before p (Some k) place free =
    let same : set (set p.lent k (Some place)) k None ≡ p.lent =
    set-set p.lent k (Some place) None
    ∙ (ap (set p.lent k) (sym (get_or_from_slice_get p.lent k None None free)) ∙ set-get_or p.lent k None) in
    ap (λ (l : List (Option ℕ)). record p { lent = l }) same

pools-back : (it : Pools) (number : ℕ) (p q : Pool) → slice_get it.pools number ≡ Some p →
    with_pool (with_pool it number q) number p ≡ it
pools-back it number p q at =
    let same : set (set it.pools number q) number p ≡ it.pools =
    set-set it.pools number q p
    ∙ (ap (set it.pools number) (sym (get_or_from_slice_get it.pools number p p at))
    ∙ set-get_or it.pools number p) in
    ap (λ (ps : List Pool). record it { pools = ps }) same

all-as-before : (it : Pools) (number place : ℕ) (p : Pool) (clone : Option ℕ) →
    slice_get it.pools number ≡ Some p → IsFree p clone →
    with_pool (with_pool it number (with_loan p clone place)) number
    (without_loan (with_loan p clone place) clone) ≡ it
all-as-before it number place p clone at free =
    ap (with_pool (with_pool it number (with_loan p clone place)) number) (pool-as-before p clone place free)
    ∙ pools-back it number p (with_loan p clone place) at

pub pools-as-before : (job : Job) (slots : List (Option Busy)) (it : Pools) (number place : ℕ) (p : Pool)
    (clone : Option ℕ) →
    ArePoolsOf job slots it → slice_get it.pools number ≡ Some p → IsFree p clone →
    ArePoolsOf job slots (with_pool (with_pool it number (with_loan p clone place)) number
    (without_loan (with_loan p clone place) clone))
pools-as-before job slots it number place p clone are at free =
    subst (ArePoolsOf job slots) (sym (all-as-before it number place p clone at free)) are

-- scratches

pub scratch-is-made : (slots : List (Option Busy)) (number place : ℕ) (a : Algorithm) (p : Pool)
    (loan : Loan) →
    IsPoolOf slots number a p → IsLoan p number place loan → IsMadeFor a loan.scratch
scratch-is-made slots number place a p loan pool is = is.made_for a pool.room

pub scratch-serves : (slots : List (Option Busy)) (number : ℕ) (a : Algorithm) (p : Pool)
    (scratch : Scratch) →
    IsPoolOf slots number a p → IsMadeFor a scratch → ServesOne p scratch
scratch-serves slots number a p scratch pool made = (a, pool.room, made)

comes-back : (it : Pools) (loan : Loan) (p : Pool) → slice_get it.pools loan.algorithm ≡ Some p →
    ServesOne p loan.scratch → ComesBack it loan
comes-back it loan p at serves =
    subst (λ (o : Option Pool). IsSomeAnd o (λ q. ServesOne q loan.scratch)) (sym at) serves

pub scratch-fits : (job : Job) (slots : List (Option Busy)) (it : Pools) (a : Algorithm) (loan : Loan) →
    ArePoolsOf job slots it → slice_get job.algorithms loan.algorithm ≡ Some a → IsMadeFor a loan.scratch →
    ComesBack it loan
scratch-fits job slots it a loan are algorithm made =
    let found = pool-there job slots it loan.algorithm a are algorithm in
    comes-back it loan found.0 found.1
    (scratch-serves slots loan.algorithm a found.0 loan.scratch
    (are.pool loan.algorithm a found.0 algorithm found.1) made)

room-then : (p : Pool) (clone : Option ℕ) (place : ℕ) → (with_loan p clone place).room ≡ p.room
room-then p None place = refl
room-then p (Some k) place = refl

fits-then : (it : Pools) (slots : List (Option Busy)) (number place : ℕ) (a : Algorithm) (p : Pool)
    (clone : Option ℕ) (back : Loan) → slice_get it.pools number ≡ Some p → IsPoolOf slots number a p →
    back.algorithm ≡ number → IsMadeFor a back.scratch →
    ComesBack (with_pool it number (with_loan p clone place)) back
fits-then it slots number place a p clone back at pool same made =
    comes-back (with_pool it number (with_loan p clone place)) back (with_loan p clone place)
    (ap (slice_get (set it.pools number (with_loan p clone place))) same
    ∙ pool-then it number p (with_loan p clone place) at)
    (a, room-then p clone place ∙ pool.room, made)

pub loan-fits : (job : Job) (slots : List (Option Busy)) (it : Pools) (number place : ℕ) (a : Algorithm)
    (p : Pool)
    (loan : Loan) →
    ArePoolsOf job slots it → slice_get job.algorithms number ≡ Some a → slice_get it.pools number ≡ Some p →
    IsLoan p number place loan → ComesBack (with_pool it number (with_loan p loan.clone place)) loan
loan-fits job slots it number place a p loan are algorithm at is =
    let pool = are.pool number a p algorithm at in
    fits-then it slots number place a p loan.clone loan at pool is.algorithm
    (scratch-is-made slots number place a p loan pool is)

-- from lend's and give_back's clauses: `back` is the loan, maybe with other inputs in its scratch

pub lent-is-made : (job : Job) (slots : List (Option Busy)) (it later : Pools) (number place : ℕ)
    (a : Algorithm)
    (loan : Loan) →
    ArePoolsOf job slots it → slice_get job.algorithms number ≡ Some a →
    LendSays it number place (Lent loan) later →
    (loan.algorithm ≡ number) × IsMadeFor a loan.scratch
lent-is-made job slots it later number place a loan are algorithm says =
    let it_lends = lend-said it later number place loan says in
    let pool = are.pool number a it_lends.pool algorithm it_lends.at in
    (it_lends.is.algorithm, it_lends.is.made_for a pool.room)

pub lent-is-out : (it later : Pools) (number place : ℕ) (loan back : Loan) →
    LendSays it number place (Lent loan) later → back.algorithm ≡ loan.algorithm → back.clone ≡ loan.clone →
    is_lent later back.algorithm back.clone ≡ true
lent-is-out it later number place loan back says same same_clone =
    let it_lends = lend-said it later number place loan says in
    ap (λ (x : Pools). is_lent x back.algorithm back.clone) it_lends.after
    ∙ (ap (λ (n : ℕ). is_lent (with_pool it number (with_loan it_lends.pool loan.clone place)) n back.clone)
    (same ∙ it_lends.is.algorithm)
    ∙ (ap (is_lent (with_pool it number (with_loan it_lends.pool loan.clone place)) number) same_clone
    ∙ loan-is-lent it number place it_lends.pool loan.clone it_lends.at it_lends.is.free))

pub lent-comes-back : (job : Job) (slots : List (Option Busy)) (it later : Pools) (number place : ℕ)
    (a : Algorithm) (loan back : Loan) →
    ArePoolsOf job slots it → slice_get job.algorithms number ≡ Some a →
    LendSays it number place (Lent loan) later → back.algorithm ≡ loan.algorithm →
    IsMadeFor a back.scratch → ComesBack later back
lent-comes-back job slots it later number place a loan back are algorithm says same made =
    let it_lends = lend-said it later number place loan says in
    subst (λ (x : Pools). ComesBack x back) (sym it_lends.after)
    (fits-then it slots number place a it_lends.pool loan.clone back it_lends.at
    (are.pool number a it_lends.pool algorithm it_lends.at) (same ∙ it_lends.is.algorithm) made)

pub lend-undone : (it later last : Pools) (number place : ℕ) (loan back : Loan) →
    LendSays it number place (Lent loan) later → back.algorithm ≡ loan.algorithm → back.clone ≡ loan.clone →
    GivenBack later back last → last ≡ it
lend-undone it later last number place loan back says same same_clone given =
    let it_lends = lend-said it later number place loan says in
    let lent : Pool = with_loan it_lends.pool loan.clone place in
    let there : slice_get later.pools back.algorithm ≡ Some lent =
    ap (λ (x : Pools). slice_get x.pools back.algorithm) it_lends.after
    ∙ (ap (slice_get (set it.pools number lent)) (same ∙ it_lends.is.algorithm)
    ∙ pool-then it number it_lends.pool lent it_lends.at) in
    let is : last ≡ with_pool later back.algorithm (without_loan lent back.clone) =
    subst (λ (o : Option Pool). IsSomeAnd o
    (λ q. last ≡ with_pool later back.algorithm (without_loan q back.clone))) there given in
    is
    ∙ (ap (λ (x : Pools). with_pool x back.algorithm (without_loan lent back.clone)) it_lends.after
    ∙ (ap (λ (n : ℕ). with_pool (with_pool it number lent) n (without_loan lent back.clone))
    (same ∙ it_lends.is.algorithm)
    ∙ (ap (λ (c : Option ℕ). with_pool (with_pool it number lent) number (without_loan lent c)) same_clone
    ∙ all-as-before it number place it_lends.pool loan.clone it_lends.at it_lends.is.free)))
