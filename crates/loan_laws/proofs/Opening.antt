-- Events that have nothing claimed. At first there is no event, and nothing is on loan; where an event
-- begins, or one ends that has no claim, the pools stay as they are.
use Rattle.std.proofs.Common.{◌≡◌, inl, inr, ℕ, ◌+◌, ◌*◌, ◌<◌, false, is_some, List, [], ◌∷◌, length, map, replicate, get_or, option_map, slice_get, Option, Some, None, refl, ap, sym, subst, ◌∙◌, arith}
use Rattle.std.specs.Prelude.{slice_set}
use Rattle.std.specs.List.{list_any, sum_by}
use Rattle.std.specs.Option.{option_flatten}
use Rattle.std.proofs.lemmas.Bool.{both_ways, cond_both}
use Rattle.std.proofs.lemmas.List.{length-map, length-replicate}
use Rattle.std.proofs.lemmas.List.Folds.{list_any_at, sum_by-replicate}
use Rattle.std.proofs.lemmas.List.Sums.{sum_by-cons}
use Rattle.std.proofs.lemmas.Option.{same_Some, slice_get-map, slice_get_cases}
use Rattle.clone_pools.specs.Loans.{Pools, is_named, loans_of, opening, opening_pool, units_in as units_in_pool, units_out as units_lent}
use Rattle.hive_model.specs.Algorithm.{Algorithm}
use Rattle.hive_model.specs.EventRecord.{EventRecord}
use Rattle.hive_model.specs.Job.{Job}
use Rattle.hive_model.specs.Lending.{units_in}
use Rattle.hive_model.specs.Machine.{Busy, Outstanding, begun}
use Rattle.loan_laws.proofs.Counting.{bit, flat-none}
use Rattle.loan_laws.proofs.Moving.{pools-kept}
use Rattle.loan_laws.specs.Loans.{ArePoolsOf, IsPoolOf}

-- empty slots count nothing
nobody : {X : Type 0} (f : Option X → ℕ) (n : ℕ) → f None ≡ 0 → sum_by f (replicate n None) ≡ 0
nobody f n none = sum_by-replicate f n None ∙ (ap (λ (k : ℕ). n * k) none ∙ omega arith)

first-pool : (n number : ℕ) (a : Algorithm) → IsPoolOf (replicate n None) number a (opening_pool a)
first-pool n number a = record {
  resources = refl;
  room = refl;
  instances = length-replicate a.cardinality None;
  lent = λ k. nobody _ n refl
      ∙ sym (ap (λ (o : Option ℕ). bit (is_some o)) (flat-none {X = ℕ} a.cardinality k));
  running = sym (nobody _ n refl);
}

none-lent : (a : Algorithm) → loans_of (opening_pool a) ≡ 0
none-lent a = ap (λ (n : ℕ). n + 0) (nobody (λ (o : Option ℕ). bit (is_some o)) a.cardinality refl)

none-out : (r : ℕ) (algorithms : List Algorithm) → units_lent r (map opening_pool algorithms) ≡ 0
none-out r [] = refl
none-out r (a ∷ algorithms) =
    let none : units_in_pool r (opening_pool a) ≡ 0 =
    cond_both (is_named r a.resources) (loans_of (opening_pool a)) 0 (λ n. n ≡ 0) (λ named. none-lent a)
    (λ other. refl) in
    omega (
      arith,
      sum_by-cons (units_in_pool r) (opening_pool a) (map opening_pool algorithms),
      none,
      none-out r algorithms,
    )

pub opening-pools : (job : Job) (n : ℕ) → ArePoolsOf job (replicate n None) (opening job)
opening-pools job n = record {
  as_many = length-map job.algorithms opening_pool;
  pool = λ number a p of_job of_pools.
      let is : opening_pool a ≡ p = same_Some (opening_pool a) p
      (sym (slice_get-map opening_pool job.algorithms number
      ∙ ap (λ (o : Option Algorithm). option_map opening_pool o) of_job) ∙ of_pools) in
      subst (IsPoolOf (replicate n None) number a) is (first-pool n number a);
  units = refl;
  out = λ r. none-out r job.algorithms ∙ sym (nobody (units_in r job) n refl);
}

pub pools-after-admission : (job : Job) (slots : List (Option Busy)) (it : Pools) (slot place : ℕ)
    (event : EventRecord) →
    ArePoolsOf job slots it → slice_get slots slot ≡ Some None →
    ArePoolsOf job (slice_set slots slot (Some (begun job place event))) it
unfolding begun
pools-after-admission job slots it slot place event are there =
    pools-kept job slots it slot None (Some (begun job place event)) are there
    (λ n. flat-none {X = Outstanding} (length job.algorithms) n)

-- where no claim is outstanding, none is found
no-claim : (claims : List (Option Outstanding)) (n : ℕ) → list_any is_some claims ≡ false →
    option_flatten (slice_get claims n) ≡ None
no-claim claims n none =
    elim ((slice_get_cases claims n).1) [
      | inl found ↦ ap option_flatten found.2 ∙ by found.0 found.1 found.3
      | inr past ↦ ap option_flatten past.1
    ]
  where
    by : (o : Option Outstanding) → n < length claims → get_or claims n o ≡ o → o ≡ None
    by None within at = refl
    by (Some c) within at =
        absurd (both_ways (list_any is_some claims) none
        (list_any_at is_some claims n (Some c) within (ap is_some at)))

pub pools-after-retirement : (job : Job) (slots : List (Option Busy)) (it : Pools) (slot : ℕ) (b : Busy) →
    ArePoolsOf job slots it → slice_get slots slot ≡ Some (Some b) → list_any is_some b.claims ≡ false →
    ArePoolsOf job (slice_set slots slot None) it
pools-after-retirement job slots it slot b are there none =
    pools-kept job slots it slot (Some b) None are there (λ n. sym (no-claim b.claims n none))
