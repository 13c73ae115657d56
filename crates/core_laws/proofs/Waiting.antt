-- What faulted is the fault of an execution, and what waits lacks an input.
use Rattle.std.proofs.Common.{◌≡◌, ℕ, zero, suc, ◌+◌, ◌-◌, ◌<◌, ◌≤◌, false, ◌&&◌, is_some, List, [], ◌∷◌, length, length-append, map, slice_get, Option, Some, None, Contains, inl, inr, refl, sym, ap, ◌∙◌, subst, arith}
use Rattle.std.proofs.lemmas.Bool.{and_from, cases_lt, false≢true, false_from_ne_true}
use Rattle.std.proofs.lemmas.List.{length-map}
use Rattle.std.proofs.lemmas.Option.{same_Some, none-some, slice_get_within}
use Rattle.std.specs.List.{AllByRecursion, flat_map}
use Rattle.event_laws.proofs.Holding.{kept-place, raw-place}
use Rattle.event_laws.proofs.Outputs.{AreLeft, leaves-with}
use Rattle.event_laws.proofs.Rounds.{can_run-from}
use Rattle.event_laws.proofs.Staying.{outcome_at-outcomes}
use Rattle.event_laws.proofs.Within.{closure-due}
use Rattle.event_laws.specs.Outputs.{IsOutput}
use Rattle.event_laws.specs.Rest.{NothingIsEnabled}
use Rattle.core_laws.proofs.Ends.{end-is, end-there, end-within, failed-end, unrun-end, waiting-end}
use Rattle.core_laws.specs.Statuses.{HasFault, IsFaultOf, IsUnrunOutput, IsWaiting, LacksInput}
use Rattle.hive_model.specs.Agreement.{AreWithin}
use Rattle.hive_model.specs.Algorithm.{Algorithm}
use Rattle.hive_model.specs.Closure.{closure}
use Rattle.hive_model.specs.DataFlow.{AreNumberedFrom}
use Rattle.hive_model.specs.Enabled.{all_there, can_run, enabled, inputs_in, product_in}
use Rattle.hive_model.specs.Event.{end_by, result_of}
use Rattle.hive_model.specs.EventRecord.{EventRecord}
use Rattle.hive_model.specs.Execution.{Execution}
use Rattle.hive_model.specs.Handles.{handle_count, output_kinds}
use Rattle.hive_model.specs.Job.{Job}
use Rattle.hive_model.specs.Live.{is_live}
use Rattle.hive_model.specs.Reached.{is_reached, reached}
use Rattle.hive_model.specs.Results.{Results, outcome_at, outcome_of, outcomes, ran_at, store}
use Rattle.hive_model.specs.Valid.{IsValidJob}
use Rattle.hive_model.specs.declared.algorithm.Output.{Output}
use Rattle.hive_model.specs.declared.algorithm.Raw.{Raw}
use Rattle.hive_model.specs.declared.decision.End.TheVariants as ends
use Rattle.hive_model.specs.declared.outcome.Fault.{Fault}
use Rattle.hive_model.specs.declared.outcome.Outcome.{Outcome}
use Rattle.hive_model.specs.declared.outcome.Outcome.TheVariants as outcome
use Rattle.hive_model.specs.declared.outcome.Place.{Place}
use Rattle.hive_model.specs.declared.product.Product.{Product}

-- an execution by its outcome

record HasOutcome (ran : Results) (number : ℕ) (o : Outcome) : Type 0 where
  it : Execution
  there : ran_at ran number ≡ Some it
  is : it.outcome ≡ o

outcome-from : (ran : Results) (number : ℕ) (o : Outcome) → outcome_at (outcomes ran) number ≡ Some o →
    HasOutcome ran number o
outcome-from ran number o h = by (ran_at ran number) refl (sym (outcome_at-outcomes ran number) ∙ h)
  where
    by : (x : Option Execution) → ran_at ran number ≡ x → outcome_of x ≡ Some o → HasOutcome ran number o
    by None e none = absurd (none-some o none)
    by (Some it) e own = record { it = it; there = e; is = same_Some it.outcome o own }

unrun-from : (ran : Results) (number : ℕ) → outcome_at (outcomes ran) number ≡ None → ran_at ran number ≡ None
unrun-from ran number h = by (ran_at ran number) refl (sym (outcome_at-outcomes ran number) ∙ h)
  where
    by : (x : Option Execution) → ran_at ran number ≡ x → outcome_of x ≡ None → ran_at ran number ≡ None
    by None e none = e
    by (Some it) e own = absurd (none-some it.outcome (sym own))

record IsThere (job : Job) (number : ℕ) : Type 0 where
  algorithm : Algorithm
  there : slice_get job.algorithms number ≡ Some algorithm

algorithm-there : (job : Job) (number : ℕ) → number < length job.algorithms → IsThere job number
algorithm-there job number low = by (slice_get job.algorithms number) refl
  where
    lost : (xs : List Algorithm) (i : ℕ) → i < length xs → slice_get xs i ≡ None → ⊥
    lost [] i h e = absurd (omega (arith, h))
    lost (x ∷ xs) zero h e = none-some x (sym e)
    lost (x ∷ xs) (suc i) h e = lost xs i (omega (arith, h)) e

    by : (o : Option Algorithm) → slice_get job.algorithms number ≡ o → IsThere job number
    by None e = absurd (lost job.algorithms number low e)
    by (Some a) e = record { algorithm = a; there = e }

pub fault-of : (job : Job) (event : EventRecord) (ran : Results) (number : ℕ) (at : Place) (fault : Fault) →
    AreWithin ran (closure job event) →
    slice_get (result_of job event ran).ends number ≡ Some (ends.Failed at fault) →
    IsFaultOf job event number at fault
unfolding result_of
fault-of job event ran number at fault within h =
    let low = end-within job (outcomes ran) number (ends.Failed at fault) h in
    let a = algorithm-there job number low in
    let failed = failed-end (is_reached (reached job (outcomes ran)) number)
    (is_live job (outcomes ran) number)
    (outcome_at (outcomes ran) number) at fault (end-is job (outcomes ran) number (ends.Failed at fault) h) in
    let o = outcome-from ran number (outcome.Failed at fault) failed in
    let due = closure-due job event number a.algorithm o.it a.there (within number o.it o.there) in
    record {
      algorithm = a.algorithm;
      there = a.there;
      outcome = ap (λ (x : Execution). x.outcome) (sym due.value) ∙ o.is;
    }

-- whose output a handle is

pub record IsOf (algorithms : List Algorithm) (handle : ℕ) : Type 0 where
  pub number : ℕ
  pub index : ℕ
  pub algorithm : Algorithm
  pub there : slice_get algorithms number ≡ Some algorithm
  pub within : index < length algorithm.outputs
  pub at : handle ≡ algorithm.first_output + index

output-of : (next : ℕ) (algorithms : List Algorithm) (handle : ℕ) → AreNumberedFrom next algorithms →
    next ≤ handle → handle < next + length (flat_map output_kinds algorithms) → IsOf algorithms handle
output-of next [] handle numbered low high = absurd (omega (arith, low, high))
output-of next (a ∷ algorithms) handle numbered low high =
    let first : a.first_output ≡ next = numbered.0 in
    elim (cases_lt handle (next + length a.outputs)) [
      | inl own ↦ record {
        number = 0;
        index = handle - next;
        algorithm = a;
        there = refl;
        within = omega (arith, low, own);
        at = omega (arith, first, low);
      }
      | inr behind ↦
          let size = length-append (output_kinds a) (flat_map output_kinds algorithms) in
          let own = length-map a.outputs (λ (o : Output). o.kind) in
          let it = output-of (next + length a.outputs) algorithms handle numbered.1 behind
          (omega (arith, high, size, own)) in
          record {
            number = suc it.number;
            index = it.index;
            algorithm = it.algorithm;
            there = it.there;
            within = it.within;
            at = it.at;
          }
    ]

pub owner : (job : Job) (handle : ℕ) → IsValidJob job → length job.raws ≤ handle → handle < handle_count job →
    IsOf job.algorithms handle
owner job handle valid low high =
    output-of (length job.raws) job.algorithms handle valid.numbered low
    (omega (
      arith,
      high,
      length-append (map (λ (r : Raw). r.kind) job.raws) (flat_map output_kinds job.algorithms),
      length-map job.raws (λ (r : Raw). r.kind),
    ))

-- an input that is missing

pub record Misses (P : ℕ → Type 0) (places : List (Option Product)) (inputs : List ℕ) : Type 0 where
  pub handle : ℕ
  pub takes : Contains inputs handle
  pub missing : product_in places handle ≡ None
  pub has : P handle

pub missing-input : (P : ℕ → Type 0) (places : List (Option Product)) (inputs : List ℕ) →
    AllByRecursion P inputs → all_there places inputs ≡ false → Misses P places inputs
missing-input P places [] all h = absurd (false≢true (sym h))
missing-input P places (x ∷ inputs) all h =
    by (product_in places x) refl h (missing-input P places inputs all.1)
  where
    by : (o : Option Product) → product_in places x ≡ o → (is_some o && all_there places inputs) ≡ false →
        (all_there places inputs ≡ false → Misses P places inputs) → Misses P places (x ∷ inputs)
    by None e none later = record {
      handle = x;
      takes = (0, omega arith, refl);
      missing = e;
      has = all.0;
    }
    by (Some p) e rest later =
        let it = later rest in
        let lt = it.takes.1 in
        record {
          handle = it.handle;
          takes = (suc it.takes.0, omega (arith, lt), it.takes.2);
          missing = it.missing;
          has = it.has;
        }

pub all-get : {X : Type 0} (P : X → Type 0) (xs : List X) (i : ℕ) (x : X) → AllByRecursion P xs →
    slice_get xs i ≡ Some x → P x
all-get P [] i x all h = absurd (none-some x h)
all-get P (y ∷ xs) zero x all h = subst P (same_Some y x h) all.0
all-get P (y ∷ xs) (suc i) x all h = all-get P xs i x all.1 h

-- an output that is missing though nothing faulted: its algorithm hasn't run

lost-output : (outputs : List Product) (i n : ℕ) → length outputs ≡ n → i < n → slice_get outputs i ≡ None → ⊥
lost-output [] i n size low e = absurd (omega (arith, size, low))
lost-output (p ∷ outputs) zero n size low e = none-some p (sym e)
lost-output (p ∷ outputs) (suc i) n size low e =
    lost-output outputs i (n - 1) (omega (arith, size)) (omega (arith, low)) e

output-unrun : (job : Job) (event : EventRecord) (ran : Results) (handle : ℕ) → IsValidJob job →
    AreWithin ran (closure job event) → (HasFault (result_of job event ran) → ⊥) →
    product_in (store job event ran) handle ≡ None → IsOf job.algorithms handle →
    IsUnrunOutput job (result_of job event ran) handle
unfolding result_of
output-unrun job event ran handle valid within fine missing it = by (ran_at ran it.number) refl
  where
    out : IsOutput job it.number it.index handle
    out = record { algorithm = it.algorithm; there = it.there; within = it.within; at = it.at }

    low : it.number < length job.algorithms
    low = slice_get_within job.algorithms it.number it.algorithm it.there

    full : (x : Execution) (o : Outcome) → ran_at ran it.number ≡ Some x → x.outcome ≡ o →
        AreLeft (length it.algorithm.outputs) o x.outputs → ⊥
    full x outcome.Accepted e own left =
        lost-output x.outputs it.index (length it.algorithm.outputs) left it.within
        (sym (kept-place job event ran it.number it.index handle x outcome.Accepted valid.numbered out e
        own) ∙ missing)
    full x outcome.Rejected e own left =
        lost-output x.outputs it.index (length it.algorithm.outputs) left it.within
        (sym (kept-place job event ran it.number it.index handle x outcome.Rejected valid.numbered out e
        own) ∙ missing)
    full x (outcome.Failed at fault) e own left = fine (record {
      number = it.number;
      at = at;
      fault = fault;
      there = end-there job (outcomes ran) it.number low
          ∙ ap (λ (o : Option Outcome). Some (end_by (is_reached (reached job (outcomes ran)) it.number)
          (is_live job (outcomes ran) it.number) o))
          (outcome_at-outcomes ran it.number ∙ (ap outcome_of e ∙ ap Some own));
    })

    by : (x : Option Execution) → ran_at ran it.number ≡ x →
        IsUnrunOutput job (result_of job event ran) handle
    by None e = record {
      number = it.number;
      index = it.index;
      output = out;
      end = end_by (is_reached (reached job (outcomes ran)) it.number)
          (is_live job (outcomes ran) it.number) None;
      there = end-there job (outcomes ran) it.number low
          ∙ ap (λ (o : Option Outcome). Some (end_by (is_reached (reached job (outcomes ran)) it.number)
          (is_live job (outcomes ran) it.number) o))
          (outcome_at-outcomes ran it.number ∙ ap outcome_of e);
      unrun = unrun-end (is_reached (reached job (outcomes ran)) it.number)
          (is_live job (outcomes ran) it.number);
    }
    by (Some x) e =
        let due = closure-due job event it.number it.algorithm x it.there (within it.number x e) in
        let left = leaves-with it.algorithm
        (inputs_in (store job event (closure job event)) it.algorithm.inputs) x.outcome
        (ap (λ (y : Execution). y.outcome) (sym due.value)) in
        absurd (full x x.outcome e refl
        (subst (λ (y : Execution). AreLeft (length it.algorithm.outputs) x.outcome y.outputs)
        (sym due.value) left))

pub lacks-input : (job : Job) (event : EventRecord) (ran : Results) (number : ℕ) → IsValidJob job →
    AreWithin ran (closure job event) → NothingIsEnabled job event ran →
    (HasFault (result_of job event ran) → ⊥) → IsWaiting (result_of job event ran) number →
    LacksInput job event (result_of job event ran) number
unfolding result_of enabled
lacks-input job event ran number valid within rests fine waits =
    let a = algorithm-there job number (end-within job (outcomes ran) number ends.ControlReady waits) in
    let w = waiting-end (is_reached (reached job (outcomes ran)) number) (is_live job (outcomes ran) number)
    (outcome_at (outcomes ran) number) (end-is job (outcomes ran) number ends.ControlReady waits) in
    let none : all_there (store job event ran) a.algorithm.inputs ≡ false =
    false_from_ne_true (all_there (store job event ran) a.algorithm.inputs) (λ full.
    let runs = can_run-from job event ran number (record {
      algorithm = a.algorithm;
      there = a.there;
      reached_is = w.is_reached;
      unrun = unrun-from ran number w.unrun;
      inputs = full;
    }) in
    false≢true (sym (rests number)
    ∙ and_from (can_run job event ran number) (is_live job (outcomes ran) number) runs w.is_live)) in
    let miss = missing-input (λ h. h < handle_count job) (store job event ran) a.algorithm.inputs
    (all-get (λ (x : Algorithm). AllByRecursion (λ h. h < handle_count job) x.inputs) job.algorithms number
    a.algorithm valid.inputs a.there) none in
    record {
      algorithm = a.algorithm;
      there = a.there;
      handle = miss.handle;
      takes = miss.takes;
      missing = miss.missing;
      origin = elim (cases_lt miss.handle (length job.raws)) [
        | inl raw ↦ inl (raw, sym (raw-place job event ran miss.handle raw) ∙ miss.missing)
        | inr out ↦ inr (output-unrun job event ran miss.handle valid within fine miss.missing
            (owner job miss.handle valid out miss.has))
      ];
    }
