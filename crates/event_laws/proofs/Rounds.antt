-- A round, algorithm by algorithm: what can run is added and the rest is left as it is. A number can run where its algorithm is
-- reached, hasn't run, and has all its inputs.
use Rattle.std.proofs.Common.{◌≡◌, ℕ, Bool, zero, suc, ◌+◌, true, false, not, is_some, List, [], ◌∷◌, length, map, slice_get, Option, Some, None, option_map, refl, sym, ap, ◌∙◌, add-zero, zero-add, arith, ◌<◌, get_or}
use Rattle.std.specs.List.{enumerate_from, list_any, range_with_len}
use Rattle.std.specs.Option.{option_flatten, option_map_or}
use Rattle.std.proofs.lemmas.Bool.{false≢true, and_parts, and_from, not-true, cond_both, both_ways, false_from_ne_true}
use Rattle.std.proofs.lemmas.List.{length-map, length-replicate}
use Rattle.std.proofs.lemmas.List.Folds.{list_any_at}
use Rattle.std.proofs.lemmas.List.FromFn.{length-enumerate_from, length-range_with_len, get_or-range_with_len}
use Rattle.std.proofs.lemmas.Option.{slice_get_within}
use Rattle.event_laws.proofs.Staying.{Stays, AllStay, stays-same, outcome_at-outcomes}
use Rattle.event_laws.specs.Rest.{NothingIsEnabled}
use Rattle.hive_model.specs.Algorithm.{Algorithm}
use Rattle.hive_model.specs.Closure.{execution_in, run_one, round, rounds, closure}
use Rattle.hive_model.specs.Enabled.{all_there, is_ready, can_run, is_enabled, enabled}
use Rattle.hive_model.specs.EventRecord.{EventRecord}
use Rattle.hive_model.specs.Job.{Job}
use Rattle.hive_model.specs.Reached.{reached, is_reached}
use Rattle.hive_model.specs.Results.{Results, ran_at, none_ran, outcomes, outcome_at, outcome_of, store}

-- what can run

pub record CanRun (job : Job) (event : EventRecord) (ran : Results) (number : ℕ) : Type 0 where
  pub algorithm : Algorithm
  pub there : slice_get job.algorithms number ≡ Some algorithm
  pub reached_is : is_reached (reached job (outcomes ran)) number ≡ true
  pub unrun : ran_at ran number ≡ None
  pub inputs : all_there (store job event ran) algorithm.inputs ≡ true

none-map : {X Y : Type 0} (f : X → Y) (o : Option X) → is_some (option_map f o) ≡ false → o ≡ None
none-map f None e = refl
none-map f (Some x) e = cc

unrun-at : (ran : Results) (number : ℕ) → not (is_some (outcome_at (outcomes ran) number)) ≡ true → ran_at ran number ≡ None
unrun-at ran number e =
    none-map (λ x. x.outcome) (ran_at ran number) (ap is_some (sym (outcome_at-outcomes ran number)) ∙ not-true _ e)

pub can_run-parts : (job : Job) (event : EventRecord) (ran : Results) (number : ℕ) → can_run job event ran number ≡ true → CanRun job event ran number
unfolding can_run is_ready
can_run-parts job event ran number = go (slice_get job.algorithms number) refl
  where
    go : (o : Option Algorithm) → slice_get job.algorithms number ≡ o →
        option_map_or (λ a. is_ready (reached job (outcomes ran)) (store job event ran) number a (outcome_at (outcomes ran) number)) o false ≡ true →
        CanRun job event ran number
    go None there e = absurd (false≢true e)
    go (Some a) there e =
        let all = and_parts (is_reached (reached job (outcomes ran)) number) _ e in
        let rest = and_parts (not (is_some (outcome_at (outcomes ran) number))) (all_there (store job event ran) a.inputs) all.1 in
        record { algorithm = a; there = there; reached_is = all.0; unrun = unrun-at ran number rest.0; inputs = rest.1 }

pub can_run-from : (job : Job) (event : EventRecord) (ran : Results) (number : ℕ) → CanRun job event ran number → can_run job event ran number ≡ true
unfolding can_run is_ready
can_run-from job event ran number c =
    let unrun : outcome_at (outcomes ran) number ≡ None = outcome_at-outcomes ran number ∙ ap outcome_of c.unrun in
    ap (λ o. option_map_or (λ a. is_ready (reached job (outcomes ran)) (store job event ran) number a (outcome_at (outcomes ran) number)) o false) c.there
    ∙ and_from _ _ c.reached_is (and_from _ _ (ap (λ o. not (is_some o)) unrun) c.inputs)

-- what is enabled can run, and the scheduler asks the same over outcomes and the store

pub enabled-same : (job : Job) (event : EventRecord) (ran : Results) (number : ℕ) →
    is_enabled job (outcomes ran) (store job event ran) number ≡ enabled job event ran number
unfolding is_enabled enabled can_run
enabled-same job event ran number = refl

pub enabled-runs : (job : Job) (event : EventRecord) (ran : Results) (number : ℕ) → enabled job event ran number ≡ true → can_run job event ran number ≡ true
unfolding enabled
enabled-runs job event ran number e = (and_parts (can_run job event ran number) _ e).0

-- a test that no number below a bound passes, and none from there on
pub none-passes : (p : ℕ → Bool) (count : ℕ) → ((number : ℕ) → p number ≡ true → number < count) → list_any p (range_with_len 0 count) ≡ false →
    (number : ℕ) → p number ≡ false
none-passes p count below none number =
    false_from_ne_true (p number) (λ passes.
    let within : number < count = below number passes in
    let at : get_or (range_with_len 0 count) number 0 ≡ number = get_or-range_with_len 0 count number 0 within ∙ zero-add number in
    let size = length-range_with_len 0 count in
    both_ways (list_any p (range_with_len 0 count)) none (list_any_at p (range_with_len 0 count) number 0 (omega arith) (ap p at ∙ passes)))

pub runs-within : (job : Job) (event : EventRecord) (ran : Results) (number : ℕ) → can_run job event ran number ≡ true → number < length job.algorithms
runs-within job event ran number runs = slice_get_within job.algorithms number _ (can_run-parts job event ran number runs).there

pub none-enabled : (job : Job) (event : EventRecord) (ran : Results) →
    list_any (is_enabled job (outcomes ran) (store job event ran)) (range_with_len 0 (length job.algorithms)) ≡ false → NothingIsEnabled job event ran
none-enabled job event ran none number =
    sym (enabled-same job event ran number)
    ∙ none-passes (is_enabled job (outcomes ran) (store job event ran)) (length job.algorithms)
    (λ n e. runs-within job event ran n (enabled-runs job event ran n (sym (enabled-same job event ran n) ∙ e))) none number

-- one round, by number

slice_get-enumerate : {X Y : Type 0} (f : ℕ × X → Y) (from : ℕ) (xs : List X) (number : ℕ) →
    slice_get (map f (enumerate_from from xs)) number ≡ option_map (λ x. f (from + number, x)) (slice_get xs number)
slice_get-enumerate f from [] number = refl
slice_get-enumerate f from (x ∷ xs) zero = ap (λ n. Some (f (n, x))) (sym (add-zero from))
slice_get-enumerate f from (x ∷ xs) (suc number) =
    let e : from + 1 + number ≡ from + suc number = omega arith in
    slice_get-enumerate f (from + 1) xs number ∙ ap (λ n. option_map (λ y. f (n, y)) (slice_get xs number)) e

pub round-at : (job : Job) (event : EventRecord) (ran : Results) (number : ℕ) →
    ran_at (round job event ran) number ≡ option_flatten (option_map (λ a. run_one job event ran (number, a)) (slice_get job.algorithms number))
unfolding round
round-at job event ran number =
    ap option_flatten (slice_get-enumerate (run_one job event ran) 0 job.algorithms number
    ∙ ap (λ n. option_map (λ a. run_one job event ran (n, a)) (slice_get job.algorithms number)) (zero-add number))

pub round-has : (job : Job) (event : EventRecord) (ran : Results) (number : ℕ) (a : Algorithm) → slice_get job.algorithms number ≡ Some a →
    ran_at (round job event ran) number ≡ run_one job event ran (number, a)
round-has job event ran number a e = round-at job event ran number ∙ ap (λ o. option_flatten (option_map (λ it. run_one job event ran (number, it)) o)) e

-- each number keeps what it has

run_one-stays : (job : Job) (event : EventRecord) (ran : Results) (number : ℕ) (a : Algorithm) → Stays (ran_at ran number) (run_one job event ran (number, a))
run_one-stays job event ran number a =
    cond_both (can_run job event ran number) (Some (execution_in job event ran a)) (ran_at ran number) (λ it. Stays (ran_at ran number) it)
    (λ runs.
    let none = (can_run-parts job event ran number runs).unrun in
    subst_none none)
    (λ _. stays-same (ran_at ran number))
  where
    subst_none : ran_at ran number ≡ None → Stays (ran_at ran number) (Some (execution_in job event ran a))
    subst_none e = rw e tt

stay-enumerate : {X Y : Type 0} (f : ℕ × X → Option Y) (from : ℕ) (xs : List X) (ys : List (Option Y)) → length ys ≡ length xs →
    ((number : ℕ) (x : X) → Stays (option_flatten (slice_get ys number)) (f (from + number, x))) → AllStay ys (map f (enumerate_from from xs))
stay-enumerate f from [] [] e h = tt
stay-enumerate f from [] (y ∷ ys) e h = absurd (omega arith)
stay-enumerate f from (x ∷ xs) [] e h = absurd (omega arith)
stay-enumerate f from (x ∷ xs) (y ∷ ys) e h = (
  rw (← add-zero from) (h 0 x),
  stay-enumerate f (from + 1) xs ys (omega arith) (λ number it.
      let same : from + suc number ≡ from + 1 + number = omega arith in
      rw (← same) (h (suc number) it)),
)

pub round-stays : (job : Job) (event : EventRecord) (ran : Results) → length ran ≡ length job.algorithms → AllStay ran (round job event ran)
unfolding round
round-stays job event ran size =
    stay-enumerate (run_one job event ran) 0 job.algorithms ran size (λ number a. rw zero-add (run_one-stays job event ran number a))

-- lengths

pub length-round : (job : Job) (event : EventRecord) (ran : Results) → length (round job event ran) ≡ length job.algorithms
unfolding round
length-round job event ran = length-map (enumerate_from 0 job.algorithms) (run_one job event ran) ∙ length-enumerate_from 0 job.algorithms

pub length-rounds : (n : ℕ) (job : Job) (event : EventRecord) (ran : Results) → length ran ≡ length job.algorithms →
    length (rounds n job event ran) ≡ length job.algorithms
unfolding rounds
length-rounds zero job event ran size = size
length-rounds (suc n) job event ran size = length-rounds n job event (round job event ran) (length-round job event ran)

pub length-closure : (job : Job) (event : EventRecord) → length (closure job event) ≡ length job.algorithms
unfolding closure
length-closure job event = length-rounds (length job.algorithms) job event (none_ran job) (length-replicate (length job.algorithms) None)
