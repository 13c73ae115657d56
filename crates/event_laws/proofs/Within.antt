-- Results that lie within the closure. What can run in them has in the closure the execution that it would get now, since its
-- inputs are there and stay; and where nothing can run in them, they have all that the closure has.
use Rattle.std.proofs.Common.{◌≡◌, ℕ, zero, suc, true, false, [], ◌∷◌, length, slice_get, Option, Some, None, refl, sym, ap, ◌∙◌, subst, arith}
use Rattle.std.proofs.lemmas.Bool.{cond_both, both_ways}
use Rattle.std.proofs.lemmas.List.{length-replicate}
use Rattle.std.proofs.lemmas.Option.{same_Some, none-some}
use Rattle.std.specs.Prelude.{replicate}
use Rattle.event_laws.proofs.Fixed.{closure-fixed, fixed-settled}
use Rattle.event_laws.proofs.Reaching.{reached-stays}
use Rattle.event_laws.proofs.Rounds.{CanRun, can_run-parts, can_run-from, round-at, round-has, round-stays, length-round, length-closure}
use Rattle.event_laws.proofs.Staying.{Stays, AllStay, stays-at, all_stay-at, within-at, outcomes-within}
use Rattle.event_laws.proofs.Stores.{store-stays, there-stays, inputs-stay}
use Rattle.event_laws.specs.Due.{IsDue}
use Rattle.event_laws.specs.Rest.{NothingCanRun, HaveSameExecutions}
use Rattle.hive_model.specs.Agreement.{AreWithin}
use Rattle.hive_model.specs.Algorithm.{Algorithm}
use Rattle.hive_model.specs.Closure.{execution_in, run_one, round, rounds, closure}
use Rattle.hive_model.specs.Enabled.{all_there, can_run}
use Rattle.hive_model.specs.EventRecord.{EventRecord}
use Rattle.hive_model.specs.Execution.{Execution, execution}
use Rattle.hive_model.specs.Job.{Job}
use Rattle.hive_model.specs.Reached.{is_leaf_of}
use Rattle.hive_model.specs.Results.{Results, ran_at, none_ran, outcomes, store}

pub stay-within : (ran others : Results) → AllStay ran others → AreWithin ran others
stay-within ran others h number it e = stays-at (ran_at ran number) (ran_at others number) it (all_stay-at ran others number h) e

pub within-same : (ran : Results) → AreWithin ran ran
within-same ran number it e = e

pub within-trans : (ran others more : Results) → AreWithin ran others → AreWithin others more → AreWithin ran more
within-trans ran others more h k number it e = k number it (h number it e)

-- lying within one another, they have the same executions
pub within-both : (ran others : Results) → AreWithin ran others → AreWithin others ran → HaveSameExecutions ran others
within-both ran others h k number = both (ran_at ran number) (ran_at others number) (within-at ran others number h) (within-at others ran number k)
  where
    both : (o later : Option Execution) → Stays o later → Stays later o → o ≡ later
    both None None h k = refl
    both None (Some y) h k = k
    both (Some x) later h k = sym h

-- results with the same executions are the same, if they are as long
pub same-results : (ran others : Results) → length ran ≡ length others → HaveSameExecutions ran others → ran ≡ others
same-results [] [] e h = refl
same-results [] (y ∷ others) e h = absurd (omega arith)
same-results (x ∷ ran) [] e h = absurd (omega arith)
same-results (x ∷ ran) (y ∷ others) e h = λ i. h 0 i ∷ same-results ran others (omega arith) (λ n. h (suc n)) i

-- what an algorithm would get stays

pub execution-stays : (job : Job) (event : EventRecord) (ran others : Results) (a : Algorithm) → AreWithin ran others →
    all_there (store job event ran) a.inputs ≡ true → execution_in job event others a ≡ execution_in job event ran a
execution-stays job event ran others a h e =
    ap (execution a) (inputs-stay (store job event ran) (store job event others) a.inputs (store-stays job event ran others h) e)

-- the inputs of the algorithm that can run
inputs-of : (job : Job) (event : EventRecord) (ran : Results) (number : ℕ) (a : Algorithm) → CanRun job event ran number → slice_get job.algorithms number ≡ Some a →
    all_there (store job event ran) a.inputs ≡ true
inputs-of job event ran number a c there =
    subst (λ (x : Algorithm). all_there (store job event ran) x.inputs ≡ true) (same_Some c.algorithm a (sym c.there ∙ there)) c.inputs

-- where nothing can run any more, what could run before has run
has-run : (job : Job) (event : EventRecord) (ran others : Results) (number : ℕ) → AreWithin ran others → can_run job event others number ≡ false →
    CanRun job event ran number → (it : Execution) × (ran_at others number ≡ Some it)
has-run job event ran others number h settled c = go (ran_at others number) refl
  where
    go : (o : Option Execution) → ran_at others number ≡ o → (it : Execution) × (ran_at others number ≡ Some it)
    go (Some it) e = (it, e)
    go None e =
        absurd (both_ways (can_run job event others number) settled (can_run-from job event others number (record {
          algorithm = c.algorithm;
          there = c.there;
          reached_is = reached-stays (is_leaf_of number) job (outcomes ran) (outcomes others) (outcomes-within ran others h) c.reached_is;
          unrun = e;
          inputs = there-stays (store job event ran) (store job event others) c.algorithm.inputs (store-stays job event ran others h) c.inputs;
        })))

-- each execution in the closure is due

abbrev pub AreDue : Job → EventRecord → Results → Type 0
AreDue job event ran =
    (number : ℕ) (a : Algorithm) (it : Execution) → slice_get job.algorithms number ≡ Some a → ran_at ran number ≡ Some it → IsDue job event ran number a it

due-stays : (job : Job) (event : EventRecord) (ran others : Results) (number : ℕ) (a : Algorithm) (it : Execution) → AreWithin ran others →
    IsDue job event ran number a it → IsDue job event others number a it
due-stays job event ran others number a it h due = record {
  reached_is = reached-stays (is_leaf_of number) job (outcomes ran) (outcomes others) (outcomes-within ran others h) due.reached_is;
  inputs = there-stays (store job event ran) (store job event others) a.inputs (store-stays job event ran others h) due.inputs;
  value = due.value ∙ sym (execution-stays job event ran others a h due.inputs);
}

-- what a round makes was due before it
due-round : (job : Job) (event : EventRecord) (ran : Results) (number : ℕ) (a : Algorithm) (it : Execution) → AreDue job event ran →
    slice_get job.algorithms number ≡ Some a → run_one job event ran (number, a) ≡ Some it → IsDue job event ran number a it
due-round job event ran number a it due there =
    cond_both (can_run job event ran number) (Some (execution_in job event ran a)) (ran_at ran number) (λ o. o ≡ Some it → IsDue job event ran number a it)
    (λ runs e. added (can_run-parts job event ran number runs) e)
    (λ _ e. due number a it there e)
  where
    added : CanRun job event ran number → Some (execution_in job event ran a) ≡ Some it → IsDue job event ran number a it
    added c e = record {
      reached_is = c.reached_is;
      inputs = inputs-of job event ran number a c there;
      value = sym (same_Some (execution_in job event ran a) it e);
    }

due-rounds : (n : ℕ) (job : Job) (event : EventRecord) (ran : Results) → length ran ≡ length job.algorithms → AreDue job event ran →
    AreDue job event (rounds n job event ran)
unfolding rounds
due-rounds zero job event ran size due = due
due-rounds (suc n) job event ran size due =
    let next = round job event ran in
    due-rounds n job event next (length-round job event ran) (λ number a it there e.
    due-stays job event ran next number a it (stay-within ran next (round-stays job event ran size))
    (due-round job event ran number a it due there (sym (round-has job event ran number a there) ∙ e)))

pub ran_at-none : (n number : ℕ) → ran_at (replicate n None) number ≡ None
ran_at-none zero number = refl
ran_at-none (suc n) zero = refl
ran_at-none (suc n) (suc number) = ran_at-none n number

pub closure-due : (job : Job) (event : EventRecord) → AreDue job event (closure job event)
unfolding closure
closure-due job event =
    due-rounds (length job.algorithms) job event (none_ran job) (length-replicate (length job.algorithms) None) (λ number a it there e.
    absurd (none-some it (sym (ran_at-none (length job.algorithms) number) ∙ e)))

pub closure-settled : (job : Job) (event : EventRecord) (number : ℕ) → can_run job event (closure job event) number ≡ false
closure-settled job event number = fixed-settled job event (closure job event) (closure-fixed job event) number

-- what can run in results within the closure has its execution there
pub runs-in_closure : (job : Job) (event : EventRecord) (ran : Results) (number : ℕ) (a : Algorithm) → AreWithin ran (closure job event) →
    can_run job event ran number ≡ true → slice_get job.algorithms number ≡ Some a → ran_at (closure job event) number ≡ Some (execution_in job event ran a)
runs-in_closure job event ran number a h runs there =
    let c = can_run-parts job event ran number runs in
    let inputs = inputs-of job event ran number a c there in
    let has = has-run job event ran (closure job event) number h (closure-settled job event number) c in
    has.1 ∙ ap Some ((closure-due job event number a has.0 there has.1).value ∙ execution-stays job event ran (closure job event) a h inputs)

-- where nothing can run

rounds-within : (n : ℕ) (job : Job) (event : EventRecord) (ran : Results) → length ran ≡ length job.algorithms → AreWithin ran (rounds n job event ran)
unfolding rounds
rounds-within zero job event ran size = within-same ran
rounds-within (suc n) job event ran size =
    let next = round job event ran in
    within-trans ran next (rounds n job event next) (stay-within ran next (round-stays job event ran size))
    (rounds-within n job event next (length-round job event ran))

no-algorithm : (job : Job) (event : EventRecord) (ran : Results) (number : ℕ) → slice_get job.algorithms number ≡ None → ran_at (round job event ran) number ≡ None
no-algorithm job event ran number e = round-at job event ran number ∙ rw e refl

-- results in which nothing can run, and a round from within them: they have what it makes, where larger ones have both
round-below : (job : Job) (event : EventRecord) (ran others all : Results) → AreWithin ran others → NothingCanRun job event others →
    AreWithin others all → AreWithin (round job event ran) all → AreWithin (round job event ran) others
round-below job event ran others all h settled inside made number it e = go (slice_get job.algorithms number) refl
  where
    -- both stand in the larger results
    same : (its : Execution) → ran_at others number ≡ Some its → ran_at others number ≡ Some it
    same its has = has ∙ sym (inside number its has) ∙ made number it e

    ran_now : (a : Algorithm) → slice_get job.algorithms number ≡ Some a → run_one job event ran (number, a) ≡ Some it → ran_at others number ≡ Some it
    ran_now a there =
        cond_both (can_run job event ran number) (Some (execution_in job event ran a)) (ran_at ran number) (λ o. o ≡ Some it → ran_at others number ≡ Some it)
        (λ runs _.
        let has = has-run job event ran others number h (settled number) (can_run-parts job event ran number runs) in
        same has.0 has.1)
        (λ _ before. h number it before)

    go : (o : Option Algorithm) → slice_get job.algorithms number ≡ o → ran_at others number ≡ Some it
    go None there = absurd (none-some it (sym (no-algorithm job event ran number there) ∙ e))
    go (Some a) there = ran_now a there (sym (round-has job event ran number a there) ∙ e)

rounds-below : (n : ℕ) (job : Job) (event : EventRecord) (ran others : Results) → length ran ≡ length job.algorithms → AreWithin ran others →
    NothingCanRun job event others → AreWithin others (rounds n job event ran) → AreWithin (rounds n job event ran) others
unfolding rounds
rounds-below zero job event ran others size h settled inside = h
rounds-below (suc n) job event ran others size h settled inside =
    let next = round job event ran in
    rounds-below n job event next others (length-round job event ran)
    (round-below job event ran others (rounds n job event next) h settled inside (rounds-within n job event next (length-round job event ran)))
    settled inside

-- the closure lies within results that lie within it, if nothing can run in them
pub closure-below : (job : Job) (event : EventRecord) (ran : Results) → AreWithin ran (closure job event) → NothingCanRun job event ran →
    AreWithin (closure job event) ran
unfolding closure
closure-below job event ran h settled =
    rounds-below (length job.algorithms) job event (none_ran job) ran (length-replicate (length job.algorithms) None)
    (λ number it e. absurd (none-some it (sym (ran_at-none (length job.algorithms) number) ∙ e))) settled h

pub settled-closure : (job : Job) (event : EventRecord) (ran : Results) → AreWithin ran (closure job event) → NothingCanRun job event ran →
    HaveSameExecutions ran (closure job event)
settled-closure job event ran h settled = within-both ran (closure job event) h (closure-below job event ran h settled)

-- a fixed point has a place for each algorithm, so it is the closure itself
pub fixed-closure : (job : Job) (event : EventRecord) (ran : Results) → AreWithin ran (closure job event) → round job event ran ≡ ran → ran ≡ closure job event
fixed-closure job event ran h e =
    same-results ran (closure job event) (ap length (sym e) ∙ length-round job event ran ∙ sym (length-closure job event))
    (settled-closure job event ran h (fixed-settled job event ran e))
