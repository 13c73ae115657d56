-- The results that wait, and the events that have ended.
use Rattle.std.proofs.Common.{◌≡◌, ℕ, zero, suc, ◌+◌, ◌<◌, ◌≤◌, is_some, List, [], ◌∷◌, ◌++◌, length, length-append, length-set, count_by, set, replicate, slice_get, Option, Some, None, inl, inr, refl, ap, sym, ◌∙◌, subst, arith}
use Rattle.std.proofs.lemmas.Bool.{cases_eq, cases_lt, eq-eqb, ne_eqb}
use Rattle.std.proofs.lemmas.Option.{none-some, same_Some, slice_get_within}
use Rattle.std.specs.Prelude.{IsSomeAnd}
use Rattle.core_laws.proofs.Counting.{one_if}
use Rattle.core_laws.proofs.Lending.{changed}
use Rattle.core_laws.proofs.Places.{flat-none, flat-set_other, flat-set_same}
use Rattle.core_laws.specs.Once.{AreOnce, ended_at, has_place}
use Rattle.hive_model.specs.EventRecord.{EventRecord}
use Rattle.hive_model.specs.EventResult.{EventResult}
use Rattle.hive_model.specs.Job.{Job}
use Rattle.hive_model.specs.Machine.{Busy, Finished, Machine}
use Rattle.hive_model.specs.Step.{busy_at}
use Rattle.hive_model.proofs.Lists.{slice_get-append_front}
use Rattle.scheduler_core.proofs.Claims.{given, taken}
use Rattle.event_loop.proofs.Counting.{count-last}
use Rattle.event_loop.specs.Loop.{IsResultOf}
use Rattle.event_loop.specs.Running.{AreWaiting}
use Rattle.event_loop.specs.Waiting.{MovesUp, Waits, waiting_at}

-- an event in a slot hasn't ended

pub not-ended : (m : Machine) (slot : ℕ) (b : Busy) → AreOnce m → busy_at m slot ≡ Some b → 0 < b.place →
    b.place ≤ m.admitted → count_by (ended_at b.place) m.finished ≡ 0
not-ended m slot b once there some known =
    let p = has_place b.place in
    let own = ap one_if (eq-eqb b.place b.place refl) in
    let sum = changed (λ s. one_if (p s)) m slot b None there in
    omega (arith, own, sum, once.once b.place some known)

pub one-busy : (m : Machine) (slot : ℕ) (b : Busy) → AreOnce m → busy_at m slot ≡ Some b →
    length m.finished + 1 ≤ m.admitted
one-busy m slot b once there =
    let sum = changed (λ s. one_if (is_some s)) m slot b None there in
    omega (arith, sum, once.many)

-- no result waits at first

pub none-wait : (job : Job) (records : List EventRecord) (n : ℕ) →
    AreWaiting job records [] 0 (replicate n None)
none-wait job records n = record {
  gone = λ place low high. absurd (omega (arith, low, high));
  waits = λ i within. sym (ap (λ (o : Option EventResult). one_if (is_some o)) (flat-none n i));
  results = λ i r e. absurd (none-some r (sym (flat-none n i) ∙ e));
}

-- a record more

pub wait-on : (job : Job) (records : List EventRecord) (event : EventRecord) (finished : List Finished)
    (handed : ℕ)
    (waiting : Waits) → AreWaiting job records finished handed waiting →
    AreWaiting job (records ++ event ∷ []) finished handed waiting
wait-on job records event finished handed waiting it = record {
  gone = it.gone;
  waits = it.waits;
  results = λ i r e.
      let t = taken (slice_get records (handed + i)) (λ x. IsResultOf job x r) (it.results i r e) in
      let within = slice_get_within records (handed + i) t.value t.was in
      given (slice_get (records ++ event ∷ []) (handed + i)) (λ x. IsResultOf job x r) t.value
      (slice_get-append_front records (event ∷ []) (handed + i) within ∙ t.was) t.holds;
}

-- an event ended, and its result waits

pub is-above : (job : Job) (records : List EventRecord) (finished : List Finished) (handed place : ℕ)
    (waiting : Waits) → AreWaiting job records finished handed waiting → 0 < place →
    count_by (ended_at place) finished ≡ 0 → handed < place
is-above job records finished handed place waiting it some none =
    elim (cases_lt handed place) [
      | inl high ↦ high
      | inr low ↦ absurd (omega (arith, none, it.gone place some low))
    ]

pub put-waits : (job : Job) (records : List EventRecord) (finished : List Finished) (handed index : ℕ)
    (waiting : Waits) (f : Finished) (event : EventRecord) → AreWaiting job records finished handed waiting →
    count_by (ended_at f.place) finished ≡ 0 → f.place ≡ handed + 1 + index → index < length waiting →
    slice_get records (handed + index) ≡ Some event → IsResultOf job event f.result →
    AreWaiting job records (finished ++ f ∷ []) handed (set waiting index (Some f.result))
put-waits job records finished handed index waiting f event it none at within there is = record {
  gone = λ place low high.
      let other = ap one_if (ne_eqb f.place place (λ e. absurd (omega (arith, e, at, high)))) in
      omega (arith, count-last (ended_at place) finished f, other, it.gone place low high);
  waits = λ i low. elim (cases_eq i index) [
    | inl same ↦
        let own : f.place ≡ handed + 1 + i = omega (arith, at, same) in
        let here = ap one_if (eq-eqb f.place (handed + 1 + i) own) in
        let before = ap (λ (p : ℕ). count_by (ended_at p) finished) own in
        let put = ap (λ (o : Option EventResult). one_if (is_some o))
        (ap (waiting_at (set waiting index (Some f.result))) same
        ∙ flat-set_same waiting index (Some f.result) within) in
        omega (arith, count-last (ended_at (handed + 1 + i)) finished f, here, before, none, put)
    | inr differs ↦
        let other = ap one_if (ne_eqb f.place (handed + 1 + i) (λ e. absurd (omega (arith, e, at, differs))))
        in
        let low_too : i < length waiting = omega (arith, low, length-set waiting index (Some f.result)) in
        let put = ap (λ (o : Option EventResult). one_if (is_some o))
        (flat-set_other waiting index i (Some f.result) differs) in
        omega (arith, count-last (ended_at (handed + 1 + i)) finished f, other, put, it.waits i low_too)
  ];
  results = λ i r e. elim (cases_eq i index) [
    | inl same ↦
        let mine : f.result ≡ r = same_Some f.result r
        (sym (flat-set_same waiting index (Some f.result) within)
        ∙ (ap (waiting_at (set waiting index (Some f.result))) (sym same) ∙ e)) in
        given (slice_get records (handed + i)) (λ x. IsResultOf job x r) event
        (ap (λ (k : ℕ). slice_get records (handed + k)) same ∙ there)
        (subst (IsResultOf job event) mine is)
    | inr differs ↦ it.results i r (sym (flat-set_other waiting index i (Some f.result) differs) ∙ e)
  ];
}

-- the first result was handed out

moved-up : (rest : Waits) (i : ℕ) → waiting_at (rest ++ None ∷ []) i ≡ waiting_at rest i
moved-up [] zero = refl
moved-up [] (suc i) = refl
moved-up (o ∷ rest) zero = refl
moved-up (o ∷ rest) (suc i) = moved-up rest i

past-none : (rest : Waits) (i : ℕ) → length rest ≤ i → waiting_at rest i ≡ None
past-none [] i h = refl
past-none (o ∷ rest) zero h = absurd (omega (arith, h))
past-none (o ∷ rest) (suc i) h = past-none rest i (omega (arith, h))

pub length-moved : (old new : Waits) (first : Option EventResult) → MovesUp old first new →
    length new ≡ length old
length-moved old new first up =
    omega (arith, ap length up.is, ap length up.was, length-append up.rest (None ∷ []))

pub first-record : (job : Job) (records : List EventRecord) (finished : List Finished) (handed : ℕ)
    (r : EventResult)
    (old new : Waits) → AreWaiting job records finished handed old → MovesUp old (Some r) new →
    IsSomeAnd (slice_get records handed) (λ event. IsResultOf job event r)
first-record job records finished handed r old new it up =
    let same : handed + 0 ≡ handed = omega arith in
    subst (λ k. IsSomeAnd (slice_get records k) (λ event. IsResultOf job event r)) same
    (it.results 0 r (ap (λ (w : Waits). waiting_at w 0) up.was))

pub move-waits : (job : Job) (records : List EventRecord) (finished : List Finished) (handed : ℕ)
    (r : EventResult)
    (old new : Waits) → AreWaiting job records finished handed old → MovesUp old (Some r) new →
    ((place : ℕ) → length records < place → count_by (ended_at place) finished ≡ 0) →
    length records ≤ handed + length old →
    AreWaiting job records finished (handed + 1) new
move-waits job records finished handed r old new it up later window = record {
  gone = λ place low high. elim (cases_eq place (handed + 1)) [
    | inl same ↦
        let first : 0 < length old = omega (arith, ap length up.was) in
        let waited = ap (λ (w : Waits). one_if (is_some (waiting_at w 0))) up.was in
        let at = ap (λ (p : ℕ). count_by (ended_at p) finished) (number same) in
        omega (arith, at, waited, it.waits 0 first)
    | inr other ↦ it.gone place low (omega (arith, high, other))
  ];
  waits = λ i within. elim (cases_eq (i + 1) (length old)) [
    | inl at_end ↦
        let past : length up.rest ≤ i = omega (arith, at_end, size) in
        let none = ap (λ (o : Option EventResult). one_if (is_some o))
        (ap (λ (w : Waits). waiting_at w i) up.is ∙ (moved-up up.rest i ∙ past-none up.rest i past)) in
        omega (arith, none, later (handed + 1 + 1 + i) (omega (arith, at_end, window)))
    | inr inside ↦
        let low : i + 1 < length old = omega (arith, within, length-moved old new (Some r) up, inside) in
        let next = ap (λ (o : Option EventResult). one_if (is_some o)) (shifted i) in
        let at = ap (λ (p : ℕ). count_by (ended_at p) finished) (behind i) in
        omega (arith, next, at, it.waits (i + 1) low)
  ];
  results = λ i other e.
      subst (λ k. IsSomeAnd (slice_get records k) (λ event. IsResultOf job event other)) (ahead i)
      (it.results (i + 1) other (sym (shifted i) ∙ e));
}
  where
    size : length old ≡ length up.rest + 1
    size = omega (arith, ap length up.was)

    number : {place : ℕ} → place ≡ handed + 1 → place ≡ handed + 1 + 0
    number {place} e = omega (arith, e)

    behind : (i : ℕ) → handed + 1 + 1 + i ≡ handed + 1 + (i + 1)
    behind i = omega arith

    ahead : (i : ℕ) → handed + (i + 1) ≡ handed + 1 + i
    ahead i = omega arith

    shifted : (i : ℕ) → waiting_at new i ≡ waiting_at old (i + 1)
    shifted i =
        let one : suc i ≡ i + 1 = omega arith in
        ap (λ (w : Waits). waiting_at w i) up.is
        ∙ (moved-up up.rest i ∙ (sym (ap (λ (w : Waits). waiting_at w (suc i)) up.was) ∙ ap (waiting_at old)
        one))

-- the next result doesn't wait: its event hasn't ended

pub next-open : (job : Job) (records : List EventRecord) (finished : List Finished) (handed : ℕ)
    (waiting : Waits) →
    AreWaiting job records finished handed waiting → waiting_at waiting 0 ≡ None → 0 < length waiting →
    count_by (ended_at (handed + 1)) finished ≡ 0
next-open job records finished handed waiting it none some =
    let same : handed + 1 + 0 ≡ handed + 1 = omega arith in
    sym (ap (λ (p : ℕ). count_by (ended_at p) finished) same)
    ∙ (it.waits 0 some ∙ ap (λ (o : Option EventResult). one_if (is_some o)) none)
