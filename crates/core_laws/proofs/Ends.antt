-- The status of an event by its ends, and the ends by what has run.
use Rattle.std.proofs.Common.{◌≡◌, ◌↔◌, ℕ, zero, suc, ◌+◌, ◌<◌, Bool, true, false, ◌||◌, if◌then◌else◌, List, [], ◌∷◌, length, map, slice_get, Option, Some, None, refl, sym, ap, ◌∙◌, zero-add, add-zero, arith}
use Rattle.std.proofs.lemmas.Bool.{false≢true, or_left, or_right}
use Rattle.std.proofs.lemmas.List.FromFn.{length-map-range_with_len}
use Rattle.std.proofs.lemmas.Option.{same_Some, none-some, slice_get_within}
use Rattle.std.specs.List.{list_any, range_with_len}
use Rattle.core_laws.specs.Statuses.{HasFault, HasWaiting, has_run}
use Rattle.hive_model.specs.Event.{end_by, end_of, ends_of, is_failed, is_waiting, result_of, status_of}
use Rattle.hive_model.specs.EventRecord.{EventRecord}
use Rattle.hive_model.specs.EventResult.{EventResult}
use Rattle.hive_model.specs.Job.{Job}
use Rattle.hive_model.specs.Results.{Results}
use Rattle.hive_model.specs.declared.decision.End.{End}
use Rattle.hive_model.specs.declared.decision.End.TheVariants as ends
use Rattle.hive_model.specs.declared.decision.EventStatus.{EventStatus}
use Rattle.hive_model.specs.declared.decision.EventStatus.TheVariants as status
use Rattle.hive_model.specs.declared.outcome.Fault.{Fault}
use Rattle.hive_model.specs.declared.outcome.Outcome.{Outcome}
use Rattle.hive_model.specs.declared.outcome.Outcome.TheVariants as outcome
use Rattle.hive_model.specs.declared.outcome.Place.{Place}

-- what passes a test somewhere

pub record Passes {X : Type 0} (p : X → Bool) (xs : List X) : Type 0 where
  pub index : ℕ
  pub it : X
  pub there : slice_get xs index ≡ Some it
  pub passes : p it ≡ true

pub any-passes : {X : Type 0} (p : X → Bool) (xs : List X) → list_any p xs ≡ true → Passes p xs
any-passes p [] h = absurd (false≢true h)
any-passes p (x ∷ xs) h = by (p x) refl h (any-passes p xs)
  where
    by : (t : Bool) → p x ≡ t → (t || list_any p xs) ≡ true → (list_any p xs ≡ true → Passes p xs) →
        Passes p (x ∷ xs)
    by true e either later = record { index = 0; it = x; there = refl; passes = e }
    by false e either later =
        let rest = later either in
        record { index = suc rest.index; it = rest.it; there = rest.there; passes = rest.passes }

pub passes-any : {X : Type 0} (p : X → Bool) (xs : List X) (i : ℕ) (x : X) → slice_get xs i ≡ Some x →
    p x ≡ true → list_any p xs ≡ true
passes-any p [] i x there h = absurd (none-some x there)
passes-any p (y ∷ xs) zero x there h = or_left (p y) (list_any p xs) (ap p (same_Some y x there) ∙ h)
passes-any p (y ∷ xs) (suc i) x there h = or_right (p y) (list_any p xs) (passes-any p xs i x there h)

-- a list that is made number by number

range-at : {X : Type 0} (f : ℕ → X) (from n i : ℕ) → i < n →
    slice_get (map f (range_with_len from n)) i ≡ Some (f (from + i))
range-at f from zero i h = absurd (omega arith)
range-at f from (suc n) zero h = ap (λ k. Some (f k)) (sym (add-zero from))
range-at f from (suc n) (suc i) h =
    let same : from + 1 + i ≡ from + suc i = omega arith in
    range-at f (from + 1) n i (omega arith) ∙ ap (λ k. Some (f k)) same

pub made-at : {X : Type 0} (f : ℕ → X) (n i : ℕ) → i < n →
    slice_get (map f (range_with_len 0 n)) i ≡ Some (f i)
made-at f n i h = range-at f 0 n i h ∙ ap (λ k. Some (f k)) (zero-add i)

-- an end that is told is the algorithm's
pub end-is : (job : Job) (ran : List (Option Outcome)) (number : ℕ) (it : End) →
    slice_get (ends_of job ran) number ≡ Some it → end_of job ran number ≡ it
unfolding ends_of
end-is job ran number it h =
    let count = length job.algorithms in
    let within = slice_get_within (map (end_of job ran) (range_with_len 0 count)) number it h in
    let low : number < count = omega (arith, within, length-map-range_with_len (end_of job ran) 0 count) in
    same_Some (end_of job ran number) it (sym (made-at (end_of job ran) count number low) ∙ h)

pub end-there : (job : Job) (ran : List (Option Outcome)) (number : ℕ) → number < length job.algorithms →
    slice_get (ends_of job ran) number ≡ Some (end_of job ran number)
unfolding ends_of
end-there job ran number low = made-at (end_of job ran) (length job.algorithms) number low

pub end-within : (job : Job) (ran : List (Option Outcome)) (number : ℕ) (it : End) →
    slice_get (ends_of job ran) number ≡ Some it → number < length job.algorithms
unfolding ends_of
end-within job ran number it h =
    let count = length job.algorithms in
    omega (
      arith,
      slice_get_within (map (end_of job ran) (range_with_len 0 count)) number it h,
      length-map-range_with_len (end_of job ran) 0 count,
    )

-- an end by what has run

pub failed-end : (entered live : Bool) (o : Option Outcome) (at : Place) (fault : Fault) →
    end_by entered live o ≡ ends.Failed at fault → o ≡ Some (outcome.Failed at fault)
failed-end entered live (Some outcome.Accepted) at fault h = absurd (cc)
failed-end entered live (Some outcome.Rejected) at fault h = absurd (cc)
failed-end entered live (Some (outcome.Failed place other)) at fault h = cc
failed-end false live None at fault h = absurd (cc)
failed-end true false None at fault h = absurd (cc)
failed-end true true None at fault h = absurd (cc)

pub record Waits (entered live : Bool) (o : Option Outcome) : Type 0 where
  pub is_reached : entered ≡ true
  pub is_live : live ≡ true
  pub unrun : o ≡ None

pub waiting-end : (entered live : Bool) (o : Option Outcome) → end_by entered live o ≡ ends.ControlReady →
    Waits entered live o
waiting-end entered live (Some outcome.Accepted) h = absurd (cc)
waiting-end entered live (Some outcome.Rejected) h = absurd (cc)
waiting-end entered live (Some (outcome.Failed place other)) h = absurd (cc)
waiting-end false live None h = absurd (cc)
waiting-end true false None h = absurd (cc)
waiting-end true true None h = record { is_reached = refl; is_live = refl; unrun = refl }

pub unrun-end : (entered live : Bool) → has_run (end_by entered live None) ≡ false
unrun-end false live = refl
unrun-end true false = refl
unrun-end true true = refl

-- the status

record IsFailed (it : End) : Type 0 where
  at : Place
  fault : Fault
  is : it ≡ ends.Failed at fault

failed-is : (it : End) → is_failed it ≡ true → IsFailed it
failed-is ends.Initial h = absurd (false≢true h)
failed-is ends.ControlReady h = absurd (false≢true h)
failed-is ends.Withdrawn h = absurd (false≢true h)
failed-is ends.Accepted h = absurd (false≢true h)
failed-is ends.Rejected h = absurd (false≢true h)
failed-is (ends.Failed at fault) h = record { at = at; fault = fault; is = refl }

waiting-is : (it : End) → is_waiting it ≡ true → it ≡ ends.ControlReady
waiting-is ends.Initial h = absurd (false≢true h)
waiting-is ends.ControlReady h = refl
waiting-is ends.Withdrawn h = absurd (false≢true h)
waiting-is ends.Accepted h = absurd (false≢true h)
waiting-is ends.Rejected h = absurd (false≢true h)
waiting-is (ends.Failed at fault) h = absurd (false≢true h)

abbrev chosen : Bool → Bool → EventStatus
chosen failed waiting = if failed then status.Failed else (if waiting then status.Stalled else status.Ok)

chosen-failed : (failed waiting : Bool) → chosen failed waiting ≡ status.Failed → failed ≡ true
chosen-failed true waiting h = refl
chosen-failed false true h = absurd (cc)
chosen-failed false false h = absurd (cc)

chosen-stalled : (failed waiting : Bool) → chosen failed waiting ≡ status.Stalled →
    (failed ≡ false) × (waiting ≡ true)
chosen-stalled true waiting h = absurd (cc)
chosen-stalled false true h = (refl, refl)
chosen-stalled false false h = absurd (cc)

chosen-ok : (failed waiting : Bool) → chosen failed waiting ≡ status.Ok →
    (failed ≡ false) × (waiting ≡ false)
chosen-ok true waiting h = absurd (cc)
chosen-ok false true h = absurd (cc)
chosen-ok false false h = (refl, refl)

-- the status of a result is that of its ends
abbrev pub TellsStatus : EventResult → Type 0
TellsStatus result = result.status ≡ status_of result.ends

pub result-tells : (job : Job) (event : EventRecord) (ran : Results) → TellsStatus (result_of job event ran)
unfolding result_of
result-tells job event ran = refl

fault-in : (result : EventResult) → list_any is_failed result.ends ≡ true → HasFault result
fault-in result h =
    let it = any-passes is_failed result.ends h in
    let f = failed-is it.it it.passes in
    record { number = it.index; at = f.at; fault = f.fault; there = it.there ∙ ap Some f.is }

fault-any : (result : EventResult) → HasFault result → list_any is_failed result.ends ≡ true
fault-any result it = passes-any is_failed result.ends it.number (ends.Failed it.at it.fault) it.there refl

waiting-in : (result : EventResult) → list_any is_waiting result.ends ≡ true → HasWaiting result
waiting-in result h =
    let it = any-passes is_waiting result.ends h in
    record { number = it.index; there = it.there ∙ ap Some (waiting-is it.it it.passes) }

waiting-any : (result : EventResult) → HasWaiting result → list_any is_waiting result.ends ≡ true
waiting-any result it = passes-any is_waiting result.ends it.number ends.ControlReady it.there refl

pub failed-status : (result : EventResult) → TellsStatus result →
    result.status ≡ status.Failed ↔ HasFault result
unfolding status_of
failed-status result tells = (
  λ h. fault-in result
      (chosen-failed (list_any is_failed result.ends) (list_any is_waiting result.ends) (sym tells ∙ h)),
  λ it. tells ∙ ap (λ (b : Bool). chosen b (list_any is_waiting result.ends)) (fault-any result it),
)

no-fault : (result : EventResult) → list_any is_failed result.ends ≡ false → HasFault result → ⊥
no-fault result none it = false≢true (sym none ∙ fault-any result it)

by-none : (b : Bool) → (b ≡ true → ⊥) → b ≡ false
by-none true h = absurd (h refl)
by-none false h = refl

pub stalled-status : (result : EventResult) → TellsStatus result →
    result.status ≡ status.Stalled ↔ (HasFault result → ⊥) × HasWaiting result
unfolding status_of
stalled-status result tells = (
  λ h.
      let both = chosen-stalled (list_any is_failed result.ends) (list_any is_waiting result.ends)
      (sym tells ∙ h) in
      (no-fault result both.0, waiting-in result both.1),
  λ it. tells
      ∙ (ap (λ (b : Bool). chosen b (list_any is_waiting result.ends))
      (by-none (list_any is_failed result.ends) (λ e. it.0 (fault-in result e)))
      ∙ ap (chosen false) (waiting-any result it.1)),
)

pub ok-none : (result : EventResult) → TellsStatus result → result.status ≡ status.Ok →
    (HasFault result → ⊥) × (HasWaiting result → ⊥)
unfolding status_of
ok-none result tells h =
    let both = chosen-ok (list_any is_failed result.ends) (list_any is_waiting result.ends) (sym tells ∙ h) in
    (no-fault result both.0, λ it. false≢true (sym both.1 ∙ waiting-any result it))
