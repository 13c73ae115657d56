-- The pools lend exactly where the state lets the algorithm be claimed: an instance is free where no claim
-- has it, and a resource has a unit left where the claims leave one.
use Rattle.std.proofs.Common.{◌≡◌, inl, inr, ℕ, ◌<◌, nat_eq, nat_lt, Bool, true, false, not, ◌&&◌, is_none, is_some, List, [], ◌∷◌, length, map, get_or, slice_get, Option, Some, None, refl, ap, sym, ◌∙◌, arith}
use Rattle.std.specs.Prelude.{slice_index, unwrap_or}
use Rattle.std.specs.List.{count_by, list_all, list_any}
use Rattle.std.specs.Option.{option_flatten, option_map, option_map_or}
use Rattle.std.proofs.lemmas.Bool.{and_from, and_parts, both_ways, false_from_ne_true, lt-ltb, ltb-true, not-true, not_from_false, or_cases}
use Rattle.std.proofs.lemmas.List.Folds.{Any-from_list_any}
use Rattle.std.proofs.lemmas.Option.{slice_get-get_or, slice_get-map, slice_get_within, unwrap_or-slice_get}
use Rattle.clone_pools.proofs.Answering.{free-free}
use Rattle.clone_pools.specs.Lending.{LendSays}
use Rattle.clone_pools.specs.Loans.{IsFree, Pool, Pools, can_lend, has_unit_left, is_free as pool_is_free, is_out, is_reentrant, pool_lends}
use Rattle.clone_pools.specs.declared.lend.Lend.TheVariants.{Lent}
use Rattle.hive_model.specs.Algorithm.{Algorithm}
use Rattle.hive_model.specs.Job.{Job}
use Rattle.hive_model.specs.Lending.{has_clone, has_units, is_free, units_of, units_out}
use Rattle.hive_model.specs.Machine.{Busy}
use Rattle.hive_model.specs.declared.algorithm.Resource.{Resource}
use Rattle.hive_model.specs.declared.lent.Lent.{Lent as Loan}
use Rattle.loan_laws.proofs.Counting.{bit, count-none, none-counted}
use Rattle.loan_laws.proofs.OneClaim.{lend-said, pool-there}
use Rattle.loan_laws.specs.Loans.{ArePoolsOf, IsPoolOf}

-- units

mapped : (f : Resource → ℕ) (o : Option Resource) → unwrap_or (option_map f o) 0 ≡ option_map_or f o 0
mapped f None = refl
mapped f (Some r) = refl

units-are : (job : Job) (r : ℕ) →
    get_or (map (λ (it : Resource). it.units) job.resources) r 0 ≡ units_of r job
units-are job r =
    sym (unwrap_or-slice_get (map (λ (it : Resource). it.units) job.resources) r 0)
    ∙ (ap (λ (o : Option ℕ). unwrap_or o 0) (slice_get-map (λ (it : Resource). it.units) job.resources r)
    ∙ mapped (λ (it : Resource). it.units) (slice_get job.resources r))

unit-left : (job : Job) (slots : List (Option Busy)) (it : Pools) (r : ℕ) → ArePoolsOf job slots it →
    has_unit_left it r ≡ nat_lt (units_out r job slots) (units_of r job)
unit-left job slots it r are =
    ap (λ (n : ℕ). nat_lt n (slice_index it.units r)) (are.out r)
    ∙ ap (nat_lt (units_out r job slots))
    (ap (λ (us : List ℕ). slice_index us r) are.units ∙ units-are job r)

all-same : (p q : ℕ → Bool) (rs : List ℕ) → ((r : ℕ) → p r ≡ q r) → list_all p rs ≡ list_all q rs
all-same p q [] same = refl
all-same p q (r ∷ rs) same = rw (same r, all-same p q rs same) refl

units-left : (job : Job) (slots : List (Option Busy)) (it : Pools) (number : ℕ) (a : Algorithm) (p : Pool) →
    ArePoolsOf job slots it → IsPoolOf slots number a p →
    list_all (has_unit_left it) p.resources ≡ has_units job slots a
units-left job slots it number a p are pool =
    ap (list_all (has_unit_left it)) pool.resources
    ∙ all-same (has_unit_left it) (λ r. nat_lt (units_out r job slots) (units_of r job)) a.resources
    (λ r. unit-left job slots it r are)

-- instances

no-bit : (b : Bool) → bit b ≡ 0 → b ≡ false
no-bit true e = absurd (omega arith)
no-bit false e = refl

no-place : (o : Option ℕ) → is_some o ≡ false → o ≡ None
no-place None e = refl
no-place (Some n) e = absurd (cc)

pub free-there : (slots : List (Option Busy)) (number : ℕ) (a : Algorithm) (p : Pool) (clone : Option ℕ) →
    IsPoolOf slots number a p → IsFree p clone → is_free slots number a clone ≡ true
free-there slots number a p None pool free =
    ap (λ (n : ℕ). nat_eq n 0) (sym pool.instances) ∙ free
free-there slots number a p (Some k) pool free =
    let low = slice_get_within p.lent k None free in
    let within : k < a.cardinality = omega (arith, low, pool.instances) in
    let in_pool : bit (is_out p (Some k)) ≡ 0 =
    ap (λ (o : Option (Option ℕ)). bit (is_some (option_flatten o))) free in
    let nobody : count_by (has_clone number k) slots ≡ 0 = pool.lent k ∙ in_pool in
    and_from (nat_lt k a.cardinality) (not (list_any (has_clone number k) slots))
    (lt-ltb k a.cardinality within)
    (not_from_false (list_any (has_clone number k) slots)
    (none-counted (has_clone number k) slots nobody))

pub free-here : (slots : List (Option Busy)) (number : ℕ) (a : Algorithm) (p : Pool) (clone : Option ℕ) →
    IsPoolOf slots number a p → is_free slots number a clone ≡ true → IsFree p clone
free-here slots number a p None pool free = ap (λ (n : ℕ). nat_eq n 0) pool.instances ∙ free
free-here slots number a p (Some k) pool free =
    let both = and_parts (nat_lt k a.cardinality) (not (list_any (has_clone number k) slots)) free in
    let low = ltb-true k a.cardinality both.0 in
    let within : k < length p.lent = omega (arith, low, pool.instances) in
    let at = slice_get-get_or p.lent k None within in
    let nobody = count-none (has_clone number k) slots
    (not-true (list_any (has_clone number k) slots) both.1) in
    let in_pool : is_out p (Some k) ≡ false = no-bit (is_out p (Some k)) (sym (pool.lent k) ∙ nobody) in
    at ∙ ap Some (no-place (get_or p.lent k None)
    (sym (ap (λ (o : Option (Option ℕ)). is_some (option_flatten o)) at) ∙ in_pool))

-- lending

lends : (it : Pools) (number : ℕ) (p : Pool) → slice_get it.pools number ≡ Some p →
    can_lend it number ≡ (list_all (has_unit_left it) p.resources && pool_is_free p)
unfolding can_lend
lends it number p at = ap (λ (o : Option Pool). option_map_or (pool_lends it) o false) at

pub may-be-lent : (job : Job) (slots : List (Option Busy)) (it : Pools) (number : ℕ) (a : Algorithm)
    (p : Pool)
    (clone : Option ℕ) →
    ArePoolsOf job slots it → slice_get job.algorithms number ≡ Some a → slice_get it.pools number ≡ Some p →
    can_lend it number ≡ true → IsFree p clone →
    (is_free slots number a clone && has_units job slots a) ≡ true
may-be-lent job slots it number a p clone are algorithm at can free =
    let pool = are.pool number a p algorithm at in
    let both = and_parts (list_all (has_unit_left it) p.resources) (pool_is_free p)
    (sym (lends it number p at) ∙ can) in
    and_from (is_free slots number a clone) (has_units job slots a)
    (free-there slots number a p clone pool free)
    (sym (units-left job slots it number a p are pool) ∙ both.0)

-- the same from lend's clause
pub lent-may-be : (job : Job) (slots : List (Option Busy)) (it new : Pools) (number place : ℕ) (a : Algorithm)
    (loan : Loan) →
    ArePoolsOf job slots it → slice_get job.algorithms number ≡ Some a →
    LendSays it number place (Lent loan) new →
    (is_free slots number a loan.clone && has_units job slots a) ≡ true
lent-may-be job slots it new number place a loan are algorithm says =
    let it_lends = lend-said it new number place loan says in
    may-be-lent job slots it number a it_lends.pool loan.clone are algorithm it_lends.at says.0
    it_lends.is.free

pub is-refused : (job : Job) (slots : List (Option Busy)) (it : Pools) (number : ℕ) (a : Algorithm)
    (clone : Option ℕ) →
    ArePoolsOf job slots it → slice_get job.algorithms number ≡ Some a → can_lend it number ≡ false →
    (is_free slots number a clone && has_units job slots a) ≡ false
is-refused job slots it number a clone are algorithm cannot =
    let found = pool-there job slots it number a are algorithm in
    let pool = are.pool number a found.0 algorithm found.1 in
    false_from_ne_true (is_free slots number a clone && has_units job slots a)
    (λ may.
    let both = and_parts (is_free slots number a clone) (has_units job slots a) may in
    both_ways (can_lend it number) cannot
    (lends it number found.0 found.1
    ∙ and_from (list_all (has_unit_left it) found.0.resources) (pool_is_free found.0)
    (units-left job slots it number a found.0 are pool ∙ both.1)
    (free-free found.0 clone (free-here slots number a found.0 clone pool both.0))))

-- an instance that is free, where one is
one-free : (p : Pool) → pool_is_free p ≡ true → (clone : Option ℕ) × IsFree p clone
one-free p free =
    elim (or_cases (is_reentrant p) (list_any is_none p.lent) free) [
      | inl reentrant ↦ (None, reentrant)
      | inr some ↦
          let any = Any-from_list_any is_none p.lent some in
          (Some any.0, slice_get-get_or p.lent any.0 any.1 any.2 ∙ ap Some (any.3 ∙ no-value any.1 any.4))
    ]
  where
    no-value : (o : Option ℕ) → is_none o ≡ true → o ≡ None
    no-value None e = refl
    no-value (Some n) e = absurd (cc)

pub one-may-be-lent : (job : Job) (slots : List (Option Busy)) (it : Pools) (number : ℕ) (a : Algorithm) →
    ArePoolsOf job slots it → slice_get job.algorithms number ≡ Some a → can_lend it number ≡ true →
    (clone : Option ℕ) × ((is_free slots number a clone && has_units job slots a) ≡ true)
one-may-be-lent job slots it number a are algorithm can =
    let found = pool-there job slots it number a are algorithm in
    let both = and_parts (list_all (has_unit_left it) found.0.resources) (pool_is_free found.0)
    (sym (lends it number found.0 found.1) ∙ can) in
    let one = one-free found.0 both.1 in
    (one.0, may-be-lent job slots it number a found.0 one.0 are algorithm found.1 can one.1)
