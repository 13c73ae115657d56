-- The rounds of a job, one after another.
use Rattle.std.proofs.Common.{◌≡◌, ℕ, zero, suc, ◌<◌, ◌≤◌, ◌+◌, ◌-◌, if◌then◌else◌, false, List, [], ◌∷◌, Some, None, length, map, replicate, drop, slice_get, refl, sym, ap, ◌∙◌, add-one, arith}
use Rattle.std.specs.List.{AllByRecursion, enumerate_from}
use Rattle.std.specs.Option.{option_map_or}
use Rattle.std.proofs.lemmas.List.{length-map, length-replicate}
use Rattle.std.proofs.lemmas.List.FromFn.{length-enumerate_from}
use Rattle.event_laws.proofs.Lists.{map-agree}
use Rattle.hive_model.specs.Algorithm.{Algorithm}
use Rattle.hive_model.specs.Closure.{closure, execution_in, run_one, round, rounds}
use Rattle.hive_model.specs.Enabled.{can_run, is_ready}
use Rattle.hive_model.specs.EventRecord.{EventRecord}
use Rattle.hive_model.specs.Job.{Job}
use Rattle.hive_model.specs.Reached.{reached}
use Rattle.hive_model.specs.Results.{Results, outcome_at, outcome_of, none_ran, outcomes, ran_at, store}
use Rattle.serial_meaning.specs.Round.{run_by}

-- a round by what it looks at

at_front : {X : Type 0} (whole : List X) (k : ℕ) (x : X) (xs : List X) → drop k whole ≡ x ∷ xs →
    (slice_get whole k ≡ Some x) × (drop (suc k) whole ≡ xs)
at_front [] zero x xs e = cc
at_front [] (suc k) x xs e = cc
at_front (y ∷ whole) zero x xs e = (cc, cc)
at_front (y ∷ whole) (suc k) x xs e = at_front whole k x xs e

abbrev IsAt : {X : Type 0} → List X → ℕ × X → Type 0
IsAt whole (n, x) = slice_get whole n ≡ Some x

numbered-all : {X : Type 0} (whole : List X) (k : ℕ) (xs : List X) → drop k whole ≡ xs →
    AllByRecursion (IsAt whole) (enumerate_from k xs)
numbered-all whole k [] e = tt
numbered-all whole k (x ∷ xs) e =
    let found = at_front whole k x xs e in (found.0, numbered-all whole (k + 1) xs (ap (λ n. drop n whole) (add-one k) ∙ found.1))

outcome_at-outcomes : (ran : Results) (n : ℕ) → outcome_at (outcomes ran) n ≡ outcome_of (ran_at ran n)
outcome_at-outcomes [] n = refl
outcome_at-outcomes (it ∷ ran) zero = refl
outcome_at-outcomes (it ∷ ran) (suc n) = outcome_at-outcomes ran n

turn-same : (job : Job) (event : EventRecord) (ran : Results) (it : ℕ × Algorithm) → IsAt job.algorithms it →
    run_one job event ran it ≡ run_by (reached job (outcomes ran)) (store job event ran) ran it
unfolding can_run
turn-same job event ran (number, a) h =
    let members = reached job (outcomes ran) in
    let places = store job event ran in
    let test : can_run job event ran number ≡ is_ready members places number a (outcome_of (ran_at ran number)) =
    ap (λ o. option_map_or (λ b. is_ready members places number b (outcome_at (outcomes ran) number)) o false) h
    ∙ ap (is_ready members places number a) (outcome_at-outcomes ran number)
    in
    ap (λ b. if b then Some (execution_in job event ran a) else ran_at ran number) test

pub round-turns : (job : Job) (event : EventRecord) (ran : Results) →
    round job event ran ≡ map (run_by (reached job (outcomes ran)) (store job event ran) ran)
    (enumerate_from 0 job.algorithms)
unfolding round
round-turns job event ran =
    map-agree (run_one job event ran) (run_by (reached job (outcomes ran)) (store job event ran) ran)
    (IsAt job.algorithms) (turn-same job event ran)
    (enumerate_from 0 job.algorithms) (numbered-all job.algorithms 0 job.algorithms refl)

length-round : (job : Job) (event : EventRecord) (ran : Results) → length (round job event ran) ≡ length job.algorithms
unfolding round
length-round job event ran =
    length-map (enumerate_from 0 job.algorithms) (run_one job event ran) ∙ length-enumerate_from 0 job.algorithms

-- rounds

-- So many rounds are left to come from these results to the closure.
pub record AreLeft (job : Job) (event : EventRecord) (ran : Results) (count : ℕ) : Type 0 where
  pub size : length ran ≡ length job.algorithms
  pub closure_is : rounds count job event ran ≡ closure job event

pub rounds-start : (job : Job) (event : EventRecord) (count : ℕ) (ran : Results) → count ≡ length job.algorithms →
    ran ≡ replicate count None → AreLeft job event ran (count - 0)
unfolding closure
rounds-start job event count ran e is =
    let whole : count - 0 ≡ length job.algorithms = omega (arith, e) in
    let none : ran ≡ none_ran job = is ∙ ap (λ n. replicate n None) e in
    record {
      size = ap length is ∙ length-replicate count None ∙ e;
      closure_is = rw (whole, none) refl;
    }

-- a round that adds nothing is the last that matters
rounds-fixed : (n : ℕ) (job : Job) (event : EventRecord) (ran : Results) → round job event ran ≡ ran →
    rounds n job event ran ≡ ran
unfolding rounds
rounds-fixed zero job event ran e = refl
rounds-fixed (suc n) job event ran e = ap (rounds n job event) e ∙ rounds-fixed n job event ran e

pub rounds-more : (job : Job) (event : EventRecord) (count n : ℕ) (ran after : Results) → n < count →
    after ≡ round job event ran → AreLeft job event ran (count - n) → AreLeft job event after (count - (n + 1))
unfolding rounds
rounds-more job event count n ran after h is left =
    let more : suc (count - (n + 1)) ≡ count - n = omega arith in
    record {
      size = ap length is ∙ length-round job event ran;
      closure_is = ap (rounds (count - (n + 1)) job event) is ∙ ap (λ k. rounds k job event ran) more ∙ left.closure_is;
    }

pub rounds-stop : (job : Job) (event : EventRecord) (count : ℕ) (ran after : Results) → after ≡ round job event ran →
    after ≡ ran → AreLeft job event ran count → after ≡ closure job event
rounds-stop job event count ran after is same left =
    same ∙ sym (rounds-fixed count job event ran (sym is ∙ same)) ∙ left.closure_is

pub rounds-all : (job : Job) (event : EventRecord) (count n : ℕ) (ran : Results) → count ≤ n →
    AreLeft job event ran (count - n) → ran ≡ closure job event
unfolding rounds
rounds-all job event count n ran h left =
    let none : 0 ≡ count - n = omega arith in ap (λ k. rounds k job event ran) none ∙ left.closure_is
