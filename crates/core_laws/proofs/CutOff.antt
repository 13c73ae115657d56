-- What the closure has beyond results in which nothing is enabled was cut off: what is live in them has run
-- in them.
use Rattle.std.proofs.Common.{◌≡◌, ℕ, zero, suc, ◌<◌, Bool, true, false, is_some, List, [], ◌∷◌, length, slice_get, Option, Some, None, IsSomeAnd, Contains, get_or, inl, inr, refl, sym, ap, ◌∙◌, subst, subst₂, arith}
use Rattle.std.proofs.lemmas.Bool.{and_from, and_parts, cases_eq, cases_lt, false≢true, false_from_ne_true}
use Rattle.std.proofs.lemmas.Option.{none-some}
use Rattle.std.specs.List.{AllByRecursion, list_all}
use Rattle.event_laws.proofs.Additions.{additions-within, closure-additions}
use Rattle.event_laws.proofs.Holding.{output-place, raw-place, unrun-place}
use Rattle.event_laws.proofs.Rounds.{CanRun, can_run-from, can_run-parts}
use Rattle.event_laws.proofs.Settling.{Settles, decision-settles, settles-value}
use Rattle.event_laws.proofs.Staying.{Stays, outcome_at-outcomes, outcomes-within, stays-from, stays-map}
use Rattle.event_laws.proofs.Within.{ran_at-none, within-same}
use Rattle.event_laws.specs.Additions.{AreMadeBy}
use Rattle.event_laws.specs.Outputs.{IsOutput}
use Rattle.event_laws.specs.Rest.{NothingIsEnabled}
use Rattle.core_laws.proofs.LiveDecisions.{AreLiveWithin, live-reached, live-settles}
use Rattle.core_laws.proofs.LiveParts.{live-uncut, top-live, unlive-cut}
use Rattle.core_laws.proofs.Places.{flat-set_other}
use Rattle.core_laws.proofs.Waiting.{IsOf, all-get, missing-input, owner}
use Rattle.hive_model.specs.Agreement.{Agrees, AreWithin}
use Rattle.hive_model.specs.Algorithm.{Algorithm}
use Rattle.hive_model.specs.Closure.{closure}
use Rattle.hive_model.specs.DataFlow.{Takes, TakesFrom}
use Rattle.hive_model.specs.Decision.{decision}
use Rattle.hive_model.specs.Enabled.{all_there, can_run, enabled, product_in}
use Rattle.hive_model.specs.Event.{result_of}
use Rattle.hive_model.specs.EventRecord.{EventRecord}
use Rattle.hive_model.specs.Execution.{Execution}
use Rattle.hive_model.specs.Handles.{handle_count}
use Rattle.hive_model.specs.Job.{Job}
use Rattle.hive_model.specs.Live.{is_live}
use Rattle.hive_model.specs.Results.{Results, kept, outcomes, ran_at, store}
use Rattle.hive_model.specs.Valid.{IsValidJob}
use Rattle.hive_model.specs.declared.limits.TheConstants.{MOST_DEPTH}
use Rattle.hive_model.specs.declared.decision.Decision.{Decision}
use Rattle.hive_model.specs.declared.decision.Decision.TheVariants.{True, False, Undecided}
use Rattle.hive_model.specs.declared.sequence.Member.TheVariants.{Seq}

-- what has run in the first results and is live in the others has run there too
abbrev HasLive : Job → Results → Results → Type 0
HasLive job ran others = (number : ℕ) (it : Execution) → ran_at ran number ≡ Some it →
    is_live job (outcomes others) number ≡ true → ran_at others number ≡ Some it

live-within : (job : Job) (event : EventRecord) (ran others : Results) → AreWithin ran (closure job event) →
    AreWithin others (closure job event) → HasLive job ran others →
    AreLiveWithin job (outcomes ran) (outcomes others)
live-within job event ran others first second has = record {
  alike = λ m made also.
      sym (settles-value (decision job (outcomes others) m) (decision job (outcomes (closure job event)) m)
      (decision-settles job (outcomes others) (outcomes (closure job event)) m
      (outcomes-within others (closure job event) second)) also)
      ∙ settles-value (decision job (outcomes ran) m) (decision job (outcomes (closure job event)) m)
      (decision-settles job (outcomes ran) (outcomes (closure job event)) m
      (outcomes-within ran (closure job event) first)) made;
  has = λ number live.
      subst₂ (λ a b. Stays a b) (sym (outcome_at-outcomes ran number))
      (sym (outcome_at-outcomes others number))
      (stays-map (λ x. x.outcome) (ran_at ran number) (ran_at others number)
      (stays-from (ran_at ran number) (ran_at others number) (λ it e. has number it e live)));
}

there-each : (p : ℕ → Bool) (xs : List ℕ) (h k : ℕ) → list_all p xs ≡ true → k < length xs →
    get_or xs k h ≡ h → p h ≡ true
there-each p [] h k all low e = absurd (omega (arith, low))
there-each p (x ∷ xs) h zero all low e = ap p (sym e) ∙ (and_parts (p x) (list_all p xs) all).0
there-each p (x ∷ xs) h (suc k) all low e =
    there-each p xs h k (and_parts (p x) (list_all p xs) all).1 (omega (arith, low)) e

-- an input that is there in the first results is there in the others
input-comes : (job : Job) (event : EventRecord) (ran others : Results) (number handle : ℕ) (a : Algorithm) →
    IsValidJob job → HasLive job ran others → slice_get job.algorithms number ≡ Some a →
    is_live job (outcomes others) number ≡ true → Contains a.inputs handle → handle < handle_count job →
    is_some (product_in (store job event ran) handle) ≡ true →
    product_in (store job event others) handle ≡ None → ⊥
input-comes job event ran others number handle a valid has there live takes low some none =
    elim (cases_lt handle (length job.raws)) [
      | inl raw ↦ gone (raw-place job event ran handle raw
          ∙ (sym (raw-place job event others handle raw) ∙ none))
      | inr out ↦ output (owner job handle valid out low)
    ]
  where
    gone : product_in (store job event ran) handle ≡ None → ⊥
    gone e = false≢true (sym (ap is_some e) ∙ some)

    output : IsOf job.algorithms handle → ⊥
    output own = by (ran_at ran own.number) refl
      where
        out : IsOutput job own.number own.index handle
        out = record { algorithm = own.algorithm; there = own.there; within = own.within; at = own.at }

        takes-from : Takes job number own.number
        takes-from =
            let at = own.at in
            let within = own.within in
            subst (λ (o : Option Algorithm). IsSomeAnd o
            (λ x. IsSomeAnd (slice_get job.algorithms own.number) (TakesFrom x))) (sym there)
            (subst (λ (o : Option Algorithm). IsSomeAnd o (TakesFrom a)) (sym own.there)
            (handle, takes, omega (arith, at), omega (arith, at, within)))

        alive : (it : Execution) → ran_at ran own.number ≡ Some it → (t : Bool) →
            is_live job (outcomes others) own.number ≡ t → ⊥
        alive it e true l =
            gone (output-place job event ran own.number own.index handle valid.numbered out
            ∙ (ap (λ x. slice_get (kept x) own.index) (e ∙ sym (has own.number it e l))
            ∙ (sym (output-place job event others own.number own.index handle valid.numbered out) ∙ none)))
        alive it e false l =
            let c = unlive-cut job (outcomes others) own.number l in
            live-uncut job (outcomes others) number live (record {
              s = c.s;
              node = c.node;
              there = c.there;
              cutting = c.cutting;
              below_it = valid.cuts.takers c.s number own.number (record {
                node = c.node;
                there = c.there;
                cut = (and_parts c.node.cut _ c.cutting).0;
                below = c.below_it;
              }) takes-from;
            })

        by : (o : Option Execution) → ran_at ran own.number ≡ o → ⊥
        by None e = gone (unrun-place job event ran own.number own.index handle valid.numbered out e)
        by (Some it) e = alive it e (is_live job (outcomes others) own.number) refl

-- what can run in the first results and is live in the others has run there
live-ran : (job : Job) (event : EventRecord) (ran others : Results) (number : ℕ) → IsValidJob job →
    AreWithin ran (closure job event) → AreWithin others (closure job event) →
    NothingIsEnabled job event others → HasLive job ran others → can_run job event ran number ≡ true →
    is_live job (outcomes others) number ≡ true → ran_at others number ≡ None → ⊥
unfolding enabled
live-ran job event ran others number valid first second rests has runs live none =
    let c : CanRun job event ran number = can_run-parts job event ran number runs in
    let entered = live-reached job (outcomes ran) (outcomes others) number valid
    (live-within job event ran others first second has) live (top-live job (outcomes others) valid)
    c.reached_is in
    let missing : all_there (store job event others) c.algorithm.inputs ≡ false =
    false_from_ne_true (all_there (store job event others) c.algorithm.inputs) (λ full.
    false≢true (sym (rests number) ∙ and_from (can_run job event others number)
    (is_live job (outcomes others) number) (can_run-from job event others number (record {
      algorithm = c.algorithm;
      there = c.there;
      reached_is = entered;
      unrun = none;
      inputs = full;
    })) live)) in
    let miss = missing-input (λ h. h < handle_count job) (store job event others) c.algorithm.inputs
    (all-get (λ (x : Algorithm). AllByRecursion (λ h. h < handle_count job) x.inputs) job.algorithms number
    c.algorithm valid.inputs c.there) missing in
    input-comes job event ran others number miss.handle c.algorithm valid has c.there live miss.takes miss.has
    (there-each (λ h. is_some (product_in (store job event ran) h)) c.algorithm.inputs miss.handle
    miss.takes.0
    c.inputs miss.takes.1 miss.takes.2) miss.missing

made-live : (job : Job) (event : EventRecord) (others : Results) (numbers : List ℕ) (ran : Results) →
    IsValidJob job → AreWithin others (closure job event) → NothingIsEnabled job event others →
    AreMadeBy job event numbers ran → HasLive job ran others
made-live job event others [] ran valid second rests made number it e live =
    absurd (none-some it (sym (ran_at-none (length job.algorithms) number)
    ∙ (ap (λ (r : Results). ran_at r number) (sym made) ∙ e)))
made-live job event others (n ∷ earlier) ran valid second rests made number it e live =
    let before = made.0 in
    let add = made.2 in
    let has = made-live job event others earlier before valid second rests made.1 in
    let first = additions-within job event before (earlier, made.1) in
    let here = additions-within job event ran (n ∷ earlier, made) in
    elim (cases_eq number n) [
      | inl same ↦ by (ran_at others number) refl (λ none.
          live-ran job event before others number valid first second rests has
          (ap (can_run job event before) same ∙ add.runs) live none) (here number it e)
      | inr other ↦ has number it (sym (flat-set_other before n number _ other)
          ∙ (ap (λ (r : Results). ran_at r number) (sym add.added) ∙ e)) live
    ]
  where
    by : (o : Option Execution) → ran_at others number ≡ o → (ran_at others number ≡ None → ⊥) →
        ran_at (closure job event) number ≡ Some it → ran_at others number ≡ Some it
    by None own never there = absurd (never own)
    by (Some x) own never there = own ∙ (sym (second number x own) ∙ there)

both-settle : (c r : Decision) → Settles c r → Settles r c → r ≡ c
both-settle True r h k = h
both-settle False r h k = h
both-settle Undecided True h k = sym k
both-settle Undecided False h k = sym k
both-settle Undecided Undecided h k = refl

pub settled-agrees : (job : Job) (event : EventRecord) (ran : Results) → IsValidJob job →
    AreWithin ran (closure job event) → NothingIsEnabled job event ran →
    Agrees job event (result_of job event ran)
settled-agrees job event ran valid within rests =
    let made = closure-additions job event in
    let has : HasLive job (closure job event) ran =
    made-live job event ran made.0 (closure job event) valid within rests made.1 in
    let live = live-within job event (closure job event) ran (within-same (closure job event)) within has in
    let settle = λ (s : ℕ). decision-settles job (outcomes ran) (outcomes (closure job event)) (Seq s)
    (outcomes-within ran (closure job event) within) in
    record {
      ran = ran;
      told = refl;
      within = within;
      missing = λ number it there none. false_from_ne_true (is_live job (outcomes ran) number) (λ l.
          none-some it (sym none ∙ has number it there l));
      decided = λ s own. sym (settles-value (decision job (outcomes ran) (Seq s))
          (decision job (outcomes (closure job event)) (Seq s)) (settle s) own);
      outside = λ s low l. both-settle (decision job (outcomes (closure job event)) (Seq s))
          (decision job (outcomes ran) (Seq s))
          (live-settles MOST_DEPTH job (outcomes (closure job event)) (outcomes ran) (Seq s) valid live
          (valid.nested s low) l) (settle s);
    }
