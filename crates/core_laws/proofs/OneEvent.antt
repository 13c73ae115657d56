-- An event in a slot stays sound, whatever entry comes.
use Rattle.std.proofs.Common.{◌≡◌, ◌≢◌, ℕ, ◌<◌, ◌≤◌, true, List, [], length, set, slice_get, Option, Some, None, inl, inr, is_some, not, refl, sym, ap, ◌∙◌, subst, length-set, arith}
use Rattle.std.proofs.lemmas.List.{length-replicate}
use Rattle.std.proofs.lemmas.Bool.{and_parts, cases_eq}
use Rattle.std.specs.Option.{option_flatten}
use Rattle.std.proofs.lemmas.Option.{same_Some, none-some, slice_get_within}
use Rattle.event_laws.proofs.Additions.{additions-more, additions-within, length-additions}
use Rattle.event_laws.proofs.Holding.{store-written}
use Rattle.event_laws.proofs.Outputs.{AreLeft, execution-leaves}
use Rattle.event_laws.proofs.Reaching.{reached-stays}
use Rattle.event_laws.proofs.Rounds.{can_run-from, can_run-parts, enabled-runs, enabled-same}
use Rattle.event_laws.proofs.Staying.{outcomes-within}
use Rattle.event_laws.proofs.Stores.{inputs-stay, store-stays, there-stays}
use Rattle.core_laws.proofs.Places.{emptied, flat-none, flat-set_other, flat-set_same}
use Rattle.core_laws.specs.Sound.{IsClaimOf, IsSoundFor}
use Rattle.hive_model.specs.Agreement.{AreWithin}
use Rattle.hive_model.specs.Algorithm.{Algorithm}
use Rattle.hive_model.specs.Closure.{closure, execution_in}
use Rattle.hive_model.specs.DataFlow.{AreNumberedFrom}
use Rattle.hive_model.specs.Enabled.{all_there, inputs_in, is_enabled}
use Rattle.hive_model.specs.EventRecord.{EventRecord}
use Rattle.hive_model.specs.Execution.{Execution, execution}
use Rattle.hive_model.specs.Job.{Job}
use Rattle.hive_model.specs.Machine.{Busy, Outstanding, begun, claim_at}
use Rattle.hive_model.specs.Reached.{is_leaf_of}
use Rattle.hive_model.specs.Results.{Results, kept, kept_by, outcomes, ran_at, store}
use Rattle.hive_model.specs.declared.outcome.Outcome.{Outcome}
use Rattle.hive_model.specs.declared.outcome.Outcome.TheVariants.{Accepted, Rejected, Failed}
use Rattle.hive_model.specs.declared.product.Product.{Product}
use Rattle.hive_model.specs.Step.{can_claim, claimed, completed, written}

-- results with one execution more

added-other : (ran : Results) (number n : ℕ) (it : Execution) → n ≢ number →
    ran_at (set ran number (Some it)) n ≡ ran_at ran n
added-other ran number n it other = flat-set_other ran number n (Some it) other

added-within : (ran : Results) (number : ℕ) (it : Execution) → ran_at ran number ≡ None →
    AreWithin ran (set ran number (Some it))
added-within ran number it unrun n x e =
    elim (cases_eq n number) [
      | inl same ↦ absurd (none-some x (sym unrun ∙ (ap (ran_at ran) (sym same) ∙ e)))
      | inr other ↦ added-other ran number n it other ∙ e
    ]

-- a claim of an algorithm that has not run yet stays one where others have run

claim-stays : (job : Job) (event : EventRecord) (ran later : Results) (number : ℕ) (claim : Outstanding) →
    AreWithin ran later →
    ran_at later number ≡ None → IsClaimOf job event ran number claim → IsClaimOf job event later number claim
claim-stays job event ran later number claim within unrun it =
    let c = can_run-parts job event ran number it.runs in
    let same : c.algorithm ≡ it.algorithm = same_Some c.algorithm it.algorithm (sym c.there ∙ it.there) in
    let there = subst (λ (a : Algorithm). all_there (store job event ran) a.inputs ≡ true) same c.inputs in
    let stay = store-stays job event ran later within in
    let reached_is = reached-stays (is_leaf_of number) job (outcomes ran) (outcomes later)
    (outcomes-within ran later within) c.reached_is in
    record {
      algorithm = it.algorithm;
      there = it.there;
      runs = can_run-from job event later number (record {
        algorithm = it.algorithm;
        there = it.there;
        reached_is = reached_is;
        unrun = unrun;
        inputs = there-stays (store job event ran) (store job event later) it.algorithm.inputs stay there;
      });
      inputs = it.inputs ∙ sym (inputs-stay (store job event ran)
          (store job event later) it.algorithm.inputs stay there);
    }

-- what an execution leaves has places in the store

kept_by-few : (n : ℕ) (o : Outcome) (outputs : List Product) → AreLeft n o outputs →
    length (kept_by o outputs) ≤ n
kept_by-few n Accepted outputs h = omega arith
kept_by-few n Rejected outputs h = omega arith
kept_by-few n (Failed at fault) outputs h = omega arith

kept-few : (a : Algorithm) (inputs : List Product) →
    length (kept (Some (execution a inputs))) ≤ length a.outputs
kept-few a inputs =
    kept_by-few (length a.outputs) (execution a inputs).outcome (execution a inputs).outputs
    (execution-leaves a inputs)

-- the entries

pub begun-sound : (job : Job) (event : EventRecord) (place : ℕ) → IsSoundFor job event (begun job place event)
unfolding begun
begun-sound job event place = record {
  made = ([], refl);
  store_is = refl;
  claims = λ number claim e. absurd (none-some claim (sym (flat-none (length job.algorithms) number) ∙ e));
  as_many = length-replicate (length job.algorithms) None;
}

pub claimed-sound : (job : Job) (event : EventRecord) (b : Busy) (number : ℕ) (a : Algorithm) (ticket : ℕ)
    (clone : Option ℕ) →
    IsSoundFor job event b → slice_get job.algorithms number ≡ Some a → can_claim job b number ≡ true →
    IsSoundFor job event (claimed b number a ticket clone)
unfolding claimed can_claim
claimed-sound job event b number a ticket clone sound there free =
    let may = and_parts (is_enabled job (outcomes b.ran) b.store number)
    (not (is_some (claim_at b number))) free in
    let asked : is_enabled job (outcomes b.ran) (store job event b.ran) number ≡ true =
    ap (λ (places : List (Option Product)). is_enabled job (outcomes b.ran) places number)
    (sym sound.store_is) ∙ may.0 in
    let runs = enabled-runs job event b.ran number (sym (enabled-same job event b.ran number) ∙ asked) in
    let within : number < length b.claims = (let n = slice_get_within job.algorithms number a there in
    omega (arith, sound.as_many)) in
    record {
      made = sound.made;
      store_is = sound.store_is;
      claims = λ n claim e. elim (cases_eq n number) [
        | inl same ↦
            let own : Outstanding = record {
              ticket = ticket;
              clone = clone;
              inputs =
                  inputs_in b.store a.inputs;
            } in
            let is : claim ≡ own =
            same_Some claim own (sym e ∙ (ap (λ (k : ℕ). option_flatten
            (slice_get (set b.claims number (Some own)) k)) same
            ∙ flat-set_same b.claims number (Some own) within)) in
            subst (λ (k : ℕ). IsClaimOf job event b.ran k claim) (sym same) (record {
              algorithm = a;
              there = there;
              runs = runs;
              inputs = ap (λ (it : Outstanding). it.inputs) is
                  ∙ ap (λ (places : List (Option Product)). inputs_in places a.inputs) sound.store_is;
            })
        | inr other ↦ sound.claims n claim (sym (flat-set_other b.claims number n _ other) ∙ e)
      ];
      as_many = length-set b.claims number _ ∙ sound.as_many;
    }

pub completed-sound : (job : Job) (event : EventRecord) (b : Busy) (number : ℕ) (a : Algorithm)
    (claim : Outstanding) →
    AreNumberedFrom (length job.raws) job.algorithms → IsSoundFor job event b →
    slice_get job.algorithms number ≡ Some a →
    claim_at b number ≡ Some claim → IsSoundFor job event (completed b number a (execution a claim.inputs))
unfolding completed
completed-sound job event b number a claim numbered sound there mine =
    let it = sound.claims number claim mine in
    let c = can_run-parts job event b.ran number it.runs in
    let same : it.algorithm ≡ a = same_Some it.algorithm a (sym it.there ∙ there) in
    let inputs : claim.inputs ≡ inputs_in (store job event b.ran) a.inputs =
    it.inputs ∙ ap (λ (x : Algorithm). inputs_in (store job event b.ran) x.inputs) same in
    let is : execution a claim.inputs ≡ execution_in job event b.ran a = ap (execution a) inputs in
    let size : length b.ran ≡ length job.algorithms = length-additions job event b.ran sound.made in
    let low : number < length b.ran = (let n = slice_get_within job.algorithms number a there in
    omega (arith, size)) in
    let within : number < length b.claims = omega (arith, size, sound.as_many) in
    let later : Results = set b.ran number (Some (execution a claim.inputs)) in
    record {
      made = additions-more job event b.ran later number sound.made (record {
        algorithm = a;
        there = there;
        runs = it.runs;
        added = ap (λ (x : Execution). set b.ran number (Some x)) is;
      });
      store_is =
          ap (written a.first_output (kept (Some (execution a claim.inputs)))) sound.store_is
          ∙ sym (store-written job event b.ran number a (execution a claim.inputs) numbered there low c.unrun
          (kept-few a claim.inputs));
      claims = λ n other_claim e. elim (cases_eq n number) [
        | inl eq ↦ absurd (none-some other_claim (sym (flat-set_same b.claims number None within)
            ∙ (ap (λ (k : ℕ). option_flatten (slice_get (set b.claims number None) k)) (sym eq) ∙ e)))
        | inr other ↦
            let before : claim_at b n ≡ Some other_claim = sym (flat-set_other b.claims number n None other)
            ∙ e in
            let old = sound.claims n other_claim before in
            let d = can_run-parts job event b.ran n old.runs in
            claim-stays job event b.ran later n other_claim (added-within b.ran number _ c.unrun)
            (added-other b.ran number n _ other ∙ d.unrun) old
      ];
      as_many = length-set b.claims number None ∙ sound.as_many;
    }

pub back-sound : (job : Job) (event : EventRecord) (b : Busy) (number : ℕ) → IsSoundFor job event b →
    IsSoundFor job event (record b { claims = set b.claims number None })
back-sound job event b number sound = record {
  made = sound.made;
  store_is = sound.store_is;
  claims = λ n claim e. elim (cases_eq n number) [
    | inl eq ↦ sound.claims n claim (still n claim e (sym eq))
    | inr other ↦ sound.claims n claim (sym (flat-set_other b.claims number n None other) ∙ e)
  ];
  as_many = length-set b.claims number None ∙ sound.as_many;
}
  where
    -- where nothing is written past the end, a place that was emptied has no claim
    still : (n : ℕ) (claim : Outstanding) →
        claim_at (record b { claims = set b.claims number None }) n ≡ Some claim →
        number ≡ n → claim_at b n ≡ Some claim
    still n claim e eq = absurd (none-some claim (sym (emptied b.claims number n eq) ∙ e))

pub sound-within : (job : Job) (event : EventRecord) (b : Busy) → IsSoundFor job event b →
    AreWithin b.ran (closure job event)
sound-within job event b sound = additions-within job event b.ran sound.made
