-- Counts of statuses: with one result more, and of a complete run, in whatever order its events ended.
use Rattle.std.proofs.Common.{◌≡◌, ℕ, zero, suc, ◌+◌, ◌-◌, ◌<◌, ◌≤◌, nat_eq, Bool, true, false, ◌&&◌, cond, if◌then◌else◌, List, [], ◌∷◌, ◌++◌, length, length-append, map, count_by, slice_get, Some, inl, inr, refl, ap, ap₂, sym, ◌∙◌, subst, add-zero, arith}
use Rattle.std.proofs.lemmas.Bool.{cases_eq, eq-eqb, eqb-true, ne_eqb}
use Rattle.std.proofs.lemmas.List.{length-map}
use Rattle.std.proofs.lemmas.Option.{same_Some, slice_get_within}
use Rattle.std.specs.List.{AllByRecursion}
use Rattle.event_laws.proofs.Lists.{AllByRecursion-map}
use Rattle.event_laws.proofs.Uncut.{uncut-result}
use Rattle.event_laws.specs.Uncut.{HasNoCut}
use Rattle.core_laws.proofs.CompleteRuns.{many-ended, once-ended}
use Rattle.core_laws.proofs.Counting.{count-cons, one_if}
use Rattle.core_laws.proofs.OncePlaces.{run-once}
use Rattle.core_laws.proofs.States.{replay-sound}
use Rattle.core_laws.specs.Once.{ended_at}
use Rattle.core_laws.specs.Sound.{IsSoundEnd}
use Rattle.hive_model.specs.Event.{event_result}
use Rattle.hive_model.specs.EventRecord.{EventRecord}
use Rattle.hive_model.specs.EventResult.{EventResult}
use Rattle.hive_model.specs.Job.{Job}
use Rattle.hive_model.specs.Machine.{Finished, Machine}
use Rattle.hive_model.specs.Replay.{IsAtEnd, replay}
use Rattle.hive_model.specs.Valid.{IsValidJob}
use Rattle.hive_model.specs.declared.decision.EventStatus.{EventStatus}
use Rattle.hive_model.specs.declared.entry.Entry.{Entry}
use Rattle.report_text.specs.Counted.{IsCounted}
use Rattle.report_text.specs.Tallied.{CountsAll}
use Rattle.report_text.specs.declared.counts.Counts.{Counts}
use Rattle.text_model.specs.Whole.{is_failed, is_ok, is_stalled, tally}
use Rattle.event_loop.specs.Loop.{results_of}

-- one result more

tally-last : (test : EventStatus → Bool) (rs : List EventResult) (r : EventResult) →
    tally test (rs ++ r ∷ []) ≡ tally test rs + (if test r.status then 1 else 0)
tally-last test [] r = omega arith
tally-last test (x ∷ rs) r = omega (arith, tally-last test rs r)

tally-most : (test : EventStatus → Bool) (rs : List EventResult) → tally test rs ≤ length rs
tally-most test [] = omega arith
tally-most test (x ∷ rs) = by (test x.status) (tally-most test rs)
  where
    by : (t : Bool) → tally test rs ≤ length rs → (if t then 1 else 0) + tally test rs ≤ length (x ∷ rs)
    by true h = omega (arith, h)
    by false h = omega (arith, h)

pub counted-last : (finished : List Finished) (f : Finished) (counts now : Counts) →
    CountsAll (results_of finished) counts → IsCounted counts f.result.status now →
    CountsAll (results_of (finished ++ f ∷ [])) now
counted-last finished f counts now all one =
    let rs = results_of finished in
    let grown : results_of (finished ++ f ∷ []) ≡ rs ++ f.result ∷ [] = last-result finished f in
    subst (λ l. CountsAll l now) (sym grown) (record {
      events = omega (arith, one.events, all.events, length-append rs (f.result ∷ []));
      ok = omega (arith, one.ok, all.ok, tally-last is_ok rs f.result);
      failed = omega (arith, one.failed, all.failed, tally-last is_failed rs f.result);
      stalled = omega (arith, one.stalled, all.stalled, tally-last is_stalled rs f.result);
    })
  where
    last-result : (all : List Finished) (it : Finished) →
        results_of (all ++ it ∷ []) ≡ results_of all ++ it.result ∷ []
    last-result [] it = refl
    last-result (x ∷ all) it = ap (λ (l : List EventResult). x.result ∷ l) (last-result all it)

results-length : (finished : List Finished) → length (results_of finished) ≡ length finished
results-length [] = refl
results-length (f ∷ finished) = omega (arith, results-length finished)

-- none of the counts is above the number of events
pub record AreFew (counts : Counts) (n : ℕ) : Type 0 where
  pub events : counts.events ≡ n
  pub ok : counts.ok ≤ n
  pub failed : counts.failed ≤ n
  pub stalled : counts.stalled ≤ n

pub few-counted : (finished : List Finished) (counts : Counts) → CountsAll (results_of finished) counts →
    AreFew counts (length finished)
few-counted finished counts all =
    let rs = results_of finished in
    let n = results-length finished in
    record {
      events = omega (arith, all.events, n);
      ok = omega (arith, all.ok, tally-most is_ok rs, n);
      failed = omega (arith, all.failed, tally-most is_failed rs, n);
      stalled = omega (arith, all.stalled, tally-most is_stalled rs, n);
    }

-- A complete run. Each event that ended is counted at its own place, so the tally over the events is the sum
-- over the places; and
-- at each place one ended, with the result of the record there.

-- of the events that ended at a place, those whose status passes
passing_at : (EventStatus → Bool) → ℕ → Finished → Bool
passing_at test place f = ended_at place f && test f.result.status

-- over n places, from one on
at_places : (EventStatus → Bool) → ℕ → ℕ → List Finished → ℕ
at_places test zero place finished = 0
at_places test (suc n) place finished = count_by (passing_at test place) finished + at_places test n
    (place + 1) finished

one-of : (test : EventStatus → Bool) (place : ℕ) (f : Finished) →
    count_by (passing_at test place) (f ∷ []) ≡ one_if (nat_eq f.place place && test f.result.status)
unfolding passing_at
one-of test place f = omega (arith, count-cons (passing_at test place) f [])

none-at : (test : EventStatus → Bool) (n place : ℕ) → at_places test n place [] ≡ 0
unfolding at_places
none-at test zero place = refl
none-at test (suc n) place = omega (arith, none-at test n (place + 1))

split-at : (test : EventStatus → Bool) (n place : ℕ) (f : Finished) (finished : List Finished) →
    at_places test n place (f ∷ finished) ≡ at_places test n place (f ∷ []) + at_places test n place finished
unfolding at_places
split-at test zero place f finished = refl
split-at test (suc n) place f finished =
    let p = passing_at test place in
    let none : count_by p [] ≡ 0 = refl in
    omega (
      arith,
      count-cons p f finished,
      count-cons p f [],
      none,
      split-at test n (place + 1) f finished,
    )

before-all : (test : EventStatus → Bool) (n place : ℕ) (f : Finished) → f.place < place →
    at_places test n place (f ∷ []) ≡ 0
unfolding at_places
before-all test zero place f low = refl
before-all test (suc n) place f low =
    let other = ap (λ t. one_if (t && test f.result.status))
    (ne_eqb f.place place (λ e. absurd (omega (arith, e, low)))) in
    omega (arith, one-of test place f, other, before-all test n (place + 1) f (omega (arith, low)))

own-place : (test : EventStatus → Bool) (n place : ℕ) (f : Finished) → place ≤ f.place → f.place < place + n →
    at_places test n place (f ∷ []) ≡ one_if (test f.result.status)
unfolding at_places
own-place test zero place f low high = absurd (omega (arith, low, high))
own-place test (suc n) place f low high =
    elim (cases_eq f.place place) [
      | inl same ↦
          let here = ap (λ t. one_if (t && test f.result.status)) (eq-eqb f.place place same) in
          omega (arith, one-of test place f, here, before-all test n (place + 1) f (omega (arith, same)))
      | inr other ↦
          let here = ap (λ t. one_if (t && test f.result.status)) (ne_eqb f.place place other) in
          omega (
            arith,
            one-of test place f,
            here,
            own-place test n (place + 1) f (omega (arith, low, other))
                (omega (arith, high)),
          )
    ]

abbrev IsFrom : ℕ → ℕ → Finished → Type 0
IsFrom place n f = (place ≤ f.place) × (f.place < place + n)

tally-places : (test : EventStatus → Bool) (n place : ℕ) (finished : List Finished) →
    AllByRecursion (IsFrom place n) finished →
    at_places test n place finished ≡ tally test (results_of finished)
tally-places test n place [] all = none-at test n place
tally-places test n place (f ∷ finished) all =
    omega (
      arith,
      split-at test n place f finished,
      own-place test n place f all.0.0 all.0.1,
      tally-places test n place finished all.1,
    )

-- one event ended at a place, with that result
at-place : (test : EventStatus → Bool) (place : ℕ) (r : EventResult) (finished : List Finished) →
    AllByRecursion (λ (f : Finished). f.place ≡ place → f.result ≡ r) finished →
    (b : Bool) → test r.status ≡ b →
    count_by (passing_at test place) finished ≡ cond b (count_by (ended_at place) finished) 0
unfolding passing_at
at-place test place r [] all true e = refl
at-place test place r [] all false e = refl
at-place test place r (f ∷ finished) all b e =
    by b (nat_eq f.place place) refl e (at-place test place r finished all.1 b e)
  where
    own : nat_eq f.place place ≡ true → (b : Bool) → test r.status ≡ b → test f.result.status ≡ b
    own same b e = ap (λ (x : EventResult). test x.status) (all.0 (eqb-true f.place place same)) ∙ e

    by : (b t : Bool) → nat_eq f.place place ≡ t → test r.status ≡ b →
        count_by (passing_at test place) finished ≡ cond b (count_by (ended_at place) finished) 0 →
        count_by (passing_at test place) (f ∷ finished) ≡ cond b (count_by (ended_at place) (f ∷ finished)) 0
    by true true same e rest =
        let here = ap₂ (λ s t. one_if (s && t)) same (own same true e) in
        let there = ap one_if same in
        omega (
          arith,
          count-cons (passing_at test place) f finished,
          count-cons (ended_at place) f finished,
          here,
          there,
          rest,
        )
    by false true same e rest =
        let here = ap₂ (λ s t. one_if (s && t)) same (own same false e) in
        omega (arith, count-cons (passing_at test place) f finished, here, rest)
    by true false same e rest =
        let here = ap (λ s. one_if (s && test f.result.status)) same in
        let there = ap one_if same in
        omega (
          arith,
          count-cons (passing_at test place) f finished,
          count-cons (ended_at place) f finished,
          here,
          there,
          rest,
        )
    by false false same e rest =
        let here = ap (λ s. one_if (s && test f.result.status)) same in
        omega (arith, count-cons (passing_at test place) f finished, here, rest)

tally-records : (test : EventStatus → Bool) (g : EventRecord → EventResult) (records : List EventRecord)
    (place : ℕ)
    (finished : List Finished) →
    ((i : ℕ) (event : EventRecord) → slice_get records i ≡ Some event →
    count_by (passing_at test (place + i)) finished ≡ one_if (test (g event).status)) →
    at_places test (length records) place finished ≡ tally test (map g records)
unfolding at_places
tally-records test g [] place finished h = refl
tally-records test g (event ∷ records) place finished h =
    let first = sym (ap (λ (p : ℕ). count_by (passing_at test p) finished) (add-zero place)) ∙ h 0 event refl
    in
    let rest = tally-records test g records (place + 1) finished (λ i other there.
    let next : place + 1 + i ≡ place + suc i = omega arith in
    ap (λ (p : ℕ). count_by (passing_at test p) finished) next ∙ h (suc i) other there) in
    omega (arith, first, rest)

tally-complete : (job : Job) (slots : ℕ) (records : List EventRecord) (journal : List Entry) (m : Machine)
    (test : EventStatus → Bool) → IsValidJob job → HasNoCut job → replay job slots records journal ≡ Some m →
    IsAtEnd records m → tally test (results_of m.finished) ≡ tally test (map (event_result job) records)
tally-complete job slots records journal m test valid uncut led done =
    let sound = replay-sound job slots records journal m valid.numbered led in
    let once = run-once job slots records journal m led in
    let all = done.all in
    sym (tally-places test (length records) 1 m.finished
    (AllByRecursion-map (IsSoundEnd job records m.admitted) (IsFrom 1 (length records))
    (λ f it. (it.some, omega (arith, it.known, all))) m.finished sound.ended))
    ∙ tally-records test (event_result job) records 1 m.finished (λ i event there.
    let within = slice_get_within records i event there in
    let r = event_result job event in
    let one = once-ended records m once done (1 + i) (omega arith) (omega (arith, within)) in
    at-place test (1 + i) r m.finished
    (AllByRecursion-map (IsSoundEnd job records m.admitted) (λ (f : Finished). f.place ≡ 1 + i → f.result ≡ r)
    (λ f it same.
    let at : f.place - 1 ≡ i = omega (arith, same) in
    let mine : it.event ≡ event = same_Some it.event event
    (sym it.there ∙ (ap (slice_get records) at ∙ there)) in
    it.told ∙ (uncut-result job it.event it.ran uncut it.within it.rests ∙ ap (event_result job) mine))
    m.finished sound.ended) (test r.status) refl
    ∙ ap (λ n. cond (test r.status) n 0) one)

pub counted-complete : (job : Job) (slots : ℕ) (records : List EventRecord) (journal : List Entry)
    (m : Machine)
    (counts : Counts) → IsValidJob job → HasNoCut job → replay job slots records journal ≡ Some m →
    IsAtEnd records m → CountsAll (results_of m.finished) counts →
    CountsAll (map (event_result job) records) counts
counted-complete job slots records journal m counts valid uncut led done all =
    let once = run-once job slots records journal m led in
    let tallies = λ (test : EventStatus → Bool). tally-complete job slots records journal m test valid uncut
    led done in
    record {
      events = all.events
          ∙ (results-length m.finished ∙ (many-ended records m once done ∙ sym
          (length-map records (event_result job))));
      ok = all.ok ∙ tallies is_ok;
      failed = all.failed ∙ tallies is_failed;
      stalled = all.stalled ∙ tallies is_stalled;
    }
