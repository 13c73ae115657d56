-- Of each resource, what is left and what is out stay its units.
use Rattle.std.proofs.Common.{◌≡◌, ℕ, zero, suc, ◌+◌, ◌<◌, ◌≤◌, Bool, true, false, List, [], ◌∷◌, length, get_or, map, replicate, refl, ap, sym, subst, ◌∙◌, cond, arith, Option, Some, None, slice_get}
use Rattle.std.specs.Prelude.{All, nat_lt, slice_set}
use Rattle.std.specs.List.{AllByRecursion, list_all}
use Rattle.std.proofs.lemmas.List.Elements.{All-from_recursion, All-get_or, All-map, All-set}
use Rattle.std.proofs.lemmas.List.Folds.{sum_by-replicate}
use Rattle.std.proofs.lemmas.List.Sums.{sum_by-cons, sum_by-set}
use Rattle.std.proofs.lemmas.Option.{get_or_from_slice_get, slice_get_within}
use Rattle.hive_model.specs.Algorithm.{Algorithm}
use Rattle.hive_model.specs.Valid.{AreDistinctNumbers}
use Rattle.hive_model.specs.declared.algorithm.Resource.{Resource}
use Rattle.hive_model.specs.declared.limits.TheConstants.{MOST_UNITS}
use Rattle.clone_pools.specs.Instances.{AreCounted, IsPool}
use Rattle.clone_pools.specs.Loans.{Pool, IsFree, has_unit_left, is_named, is_out, loans_of, opening_pool, units_in, units_out, with_loan, without_loan}
use Rattle.clone_pools.specs.Units.{has_left, named}
use Rattle.clone_pools.proofs.Counting.{bit, counted, loans-less, loans-more}

units-changed : (r n : ℕ) (pools : List Pool) (p q : Pool) → slice_get pools n ≡ Some p →
    units_out r (slice_set pools n q) + units_in r p ≡ units_out r pools + units_in r q
units-changed r n pools p q is =
    subst (λ (x : Pool). units_out r (slice_set pools n q) + units_in r x ≡ units_out r pools + units_in r q) (get_or_from_slice_get pools n p p is)
    (sum_by-set (units_in r) pools n q p (slice_get_within pools n p is))

one-more : (b : Bool) (m n : ℕ) → m ≡ n + 1 → cond b m 0 ≡ cond b n 0 + cond b 1 0
one-more true m n e = e
one-more false m n e = refl

units-more : (r : ℕ) (p : Pool) (c : Option ℕ) (place : ℕ) → IsFree p c → units_in r (with_loan p c place) ≡ units_in r p + named r p.resources
units-more r p None place free = one-more (is_named r p.resources) (loans_of (with_loan p None place)) (loans_of p) (loans-more p None place free)
units-more r p (Some k) place free = one-more (is_named r p.resources) (loans_of (with_loan p (Some k) place)) (loans_of p) (loans-more p (Some k) place free)

units-less : (r : ℕ) (p : Pool) (c : Option ℕ) → is_out p c ≡ true → units_in r p ≡ units_in r (without_loan p c) + named r p.resources
units-less r p None out = one-more (is_named r p.resources) (loans_of p) (loans_of (without_loan p None)) (sym (loans-less p None out))
units-less r p (Some k) out = one-more (is_named r p.resources) (loans_of p) (loans_of (without_loan p (Some k))) (sym (loans-less p (Some k) out))

pool-more : (count : ℕ) (p : Pool) (c : Option ℕ) (place : ℕ) → IsPool count p → IsPool count (with_loan p c place)
pool-more count p None place h = record { within = h.within; differ = h.differ }
pool-more count p (Some k) place h = record { within = h.within; differ = h.differ }

pool-less : (count : ℕ) (p : Pool) (c : Option ℕ) → IsPool count p → IsPool count (without_loan p c)
pool-less count p None h = record { within = h.within; differ = h.differ }
pool-less count p (Some k) h = record { within = h.within; differ = h.differ }

pub pool-at : (count n : ℕ) (pools : List Pool) (p : Pool) → slice_get pools n ≡ Some p → All (IsPool count) pools → IsPool count p
pool-at count n pools p is all =
    subst (IsPool count) (get_or_from_slice_get pools n p p is) (All-get_or (IsPool count) pools n p (slice_get_within pools n p is) all)

sum-more : (l later o after u a b k : ℕ) → later + k ≡ l → after + a ≡ o + b → b ≡ a + k → l + o ≡ u → later + after ≡ u
sum-more l later o after u a b k taken changed more is = omega arith

pub lent-counted : (pools : List Pool) (units left later : List ℕ) (n : ℕ) (p : Pool) (c : Option ℕ) (place : ℕ) → slice_get pools n ≡ Some p → IsFree p c →
    AreCounted pools units left → length later ≡ length left → ((r : ℕ) → get_or later r 0 + named r p.resources ≡ get_or left r 0) →
    AreCounted (slice_set pools n (with_loan p c place)) units later
lent-counted pools units left later n p c place is free h len taken = record {
  pool = All-set (IsPool (length units)) pools n (with_loan p c place) (pool-more (length units) p c place (pool-at (length units) n pools p is h.pool)) h.pool;
  lengths = len ∙ h.lengths;
  few = h.few;
  counts = λ r. sum-more (get_or left r 0) (get_or later r 0) (units_out r pools) (units_out r (slice_set pools n (with_loan p c place))) (get_or units r 0)
      (units_in r p) (units_in r (with_loan p c place)) (named r p.resources) (taken r) (units-changed r n pools p (with_loan p c place) is)
      (units-more r p c place free) (h.counts r);
}

sum-less : (l later o after u a b k : ℕ) → later ≡ l + k → after + a ≡ o + b → a ≡ b + k → l + o ≡ u → later + after ≡ u
sum-less l later o after u a b k given changed less is = omega arith

pub back-counted : (pools : List Pool) (units left later : List ℕ) (n : ℕ) (p : Pool) (c : Option ℕ) → slice_get pools n ≡ Some p → is_out p c ≡ true →
    AreCounted pools units left → length later ≡ length left → ((r : ℕ) → get_or later r 0 ≡ get_or left r 0 + named r p.resources) →
    AreCounted (slice_set pools n (without_loan p c)) units later
back-counted pools units left later n p c is out h len given = record {
  pool = All-set (IsPool (length units)) pools n (without_loan p c) (pool-less (length units) p c (pool-at (length units) n pools p is h.pool)) h.pool;
  lengths = len ∙ h.lengths;
  few = h.few;
  counts = λ r. sum-less (get_or left r 0) (get_or later r 0) (units_out r pools) (units_out r (slice_set pools n (without_loan p c))) (get_or units r 0)
      (units_in r p) (units_in r (without_loan p c)) (named r p.resources) (given r) (units-changed r n pools p (without_loan p c) is)
      (units-less r p c out) (h.counts r);
}

lt-shifted : (l o u : ℕ) → l + o ≡ u → nat_lt 0 l ≡ nat_lt o u
lt-shifted l o u is = grind arith

-- what is left tells which resources have a unit left
pub left-tells : (pools : List Pool) (units left rs : List ℕ) → AreCounted pools units left →
    list_all (has_left left) rs ≡ list_all (has_unit_left (record { pools = pools; units = units })) rs
left-tells pools units left [] h = refl
left-tells pools units left (r ∷ rs) h =
    rw (lt-shifted (get_or left r 0) (units_out r pools) (get_or units r 0) (h.counts r), left-tells pools units left rs h) refl

pub exclusive : (pools : List Pool) (units left : List ℕ) → AreCounted pools units left → (r : ℕ) → units_out r pools ≤ get_or units r 0
exclusive pools units left h r = let count = h.counts r in omega arith

-- at first nothing is out

none-lent : (a : Algorithm) → loans_of (opening_pool a) ≡ 0
none-lent a =
    ap (λ (n : ℕ). n + 0) (counted (replicate a.cardinality None) ∙ sum_by-replicate bit a.cardinality None)
    ∙ omega arith

none-in : (b : Bool) (n : ℕ) → n ≡ 0 → cond b n 0 ≡ 0
none-in true n e = e
none-in false n e = refl

none-out : (r : ℕ) (algorithms : List Algorithm) → units_out r (map opening_pool algorithms) ≡ 0
none-out r [] = refl
none-out r (a ∷ algorithms) =
    sum_by-cons (units_in r) (opening_pool a) (map opening_pool algorithms)
    ∙ ap (λ (n : ℕ). n + units_out r (map opening_pool algorithms)) (none-in (is_named r a.resources) (loans_of (opening_pool a)) (none-lent a))
    ∙ ap (λ (n : ℕ). 0 + n) (none-out r algorithms)

pub few-units : (resources : List Resource) → AllByRecursion (λ (it : Resource). (1 ≤ it.units) × (it.units ≤ MOST_UNITS)) resources → (r : ℕ) →
    get_or (map (λ (it : Resource). it.units) resources) r 0 ≤ MOST_UNITS
few-units [] all r = omega arith
few-units (it ∷ resources) all zero = all.0.1
few-units (it ∷ resources) all (suc r) = few-units resources all.1 r

opening-all : (count : ℕ) (algorithms : List Algorithm) → AllByRecursion (λ (a : Algorithm). AllByRecursion (λ r. r < count) a.resources) algorithms →
    AllByRecursion (λ (a : Algorithm). AreDistinctNumbers a.resources) algorithms → All (λ (a : Algorithm). IsPool count (opening_pool a)) algorithms
opening-all count algorithms within differ i d lt = record {
  within = All-from_recursion (λ r. r < count) (get_or algorithms i d).resources
      (All-from_recursion (λ (a : Algorithm). AllByRecursion (λ r. r < count) a.resources) algorithms within i d lt);
  differ = All-from_recursion (λ (a : Algorithm). AreDistinctNumbers a.resources) algorithms differ i d lt;
}

pub opening-counted : (algorithms : List Algorithm) (pools : List Pool) (units left : List ℕ) (count : ℕ) →
    AllByRecursion (λ (a : Algorithm). AllByRecursion (λ r. r < count) a.resources) algorithms →
    AllByRecursion (λ (a : Algorithm). AreDistinctNumbers a.resources) algorithms →
    pools ≡ map opening_pool algorithms → length units ≡ count → ((r : ℕ) → get_or units r 0 ≤ MOST_UNITS) → left ≡ units → AreCounted pools units left
opening-counted algorithms pools units left count within differ are len few same = record {
  pool = rw (are, len) (All-map (IsPool count) opening_pool algorithms (opening-all count algorithms within differ));
  lengths = ap length same;
  few = few;
  counts = λ r. ap (λ (them : List Pool). get_or left r 0 + units_out r them) are ∙ ap (λ (n : ℕ). get_or left r 0 + n) (none-out r algorithms)
      ∙ ap (λ (them : List ℕ). get_or them r 0 + 0) same ∙ omega arith;
}
