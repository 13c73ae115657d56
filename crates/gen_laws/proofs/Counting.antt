-- How many of the generated events ended how.
use Rattle.std.proofs.Common.{◌≡◌, ℕ, zero, suc, ◌+◌, ◌-◌, ◌/◌, ◌%◌, ◌<◌, Bool, true, false, not, ◌&&◌, if◌then◌else◌, pos, List, [], ◌∷◌, length, map, Some, None, refl, ap, ◌∙◌, arith}
use Rattle.std.proofs.lemmas.Bool.Decides.{nat_tests}
use Rattle.gen_laws.proofs.Rounding.{having-some, having-zero, lacking-some, lacking-zero, with_cells}
use Rattle.gen_laws.specs.GeneratedJob.{generated_job}
use Rattle.gen_laws.specs.Results.{results_of, status_at}
use Rattle.hive_gen.specs.Events.{divides_by_zero, event_of, events_from, hits_drawn, lacks_hits, state_behind}
use Rattle.hive_model.specs.Event.{event_result}
use Rattle.hive_model.specs.EventResult.{EventResult}
use Rattle.hive_model.specs.declared.decision.EventStatus.{EventStatus}
use Rattle.hive_model.specs.declared.decision.EventStatus.TheVariants as status
use Rattle.hive_model.specs.declared.product.Product.TheVariants as product
use Rattle.text_model.specs.Whole.{is_failed, is_ok, is_stalled, tally}

-- one event

abbrev by_tests : Bool → Bool → EventStatus
by_tests lacking divided = if divided then status.Failed else (if lacking then status.Stalled else status.Ok)

pub status-is : (number state : ℕ) → 0 < number → (event_result generated_job (event_of number state)).status
    ≡ status_at number
unfolding event_of
status-is number state some = by (lacks_hits number) (divides_by_zero number)
  where
    by : (t u : Bool) →
        (event_result generated_job (with_cells number
        (if t then None else Some (product.List (hits_drawn state))) (pos (if u then 0 else number)))).status
        ≡ by_tests t u
    by true true = lacking-zero number
    by true false = lacking-some number number some
    by false true = having-zero number state
    by false false = having-some number state number some

-- one event more

abbrev counted : Bool → ℕ
counted t = if t then 1 else 0

failed-test : (t u : Bool) → is_failed (by_tests t u) ≡ u
failed-test true true = refl
failed-test true false = refl
failed-test false true = refl
failed-test false false = refl

stalled-test : (t u : Bool) → is_stalled (by_tests t u) ≡ (not u && t)
stalled-test true true = refl
stalled-test true false = refl
stalled-test false true = refl
stalled-test false false = refl

one-failed : (m : ℕ) (u : Bool) → divides_by_zero (m + 1) ≡ u → counted u + m / 25 ≡ (m + 1) / 25
one-failed m true e = let h : (m + 1) % 25 ≡ 0 = grind (arith, nat_tests) in omega (arith, h)
one-failed m false e = let h : 0 < (m + 1) % 25 = grind (arith, nat_tests) in omega (arith, h)

one-stalled : (m : ℕ) (t u : Bool) → lacks_hits (m + 1) ≡ t → divides_by_zero (m + 1) ≡ u →
    counted (not u && t) + m / 10 + (m + 1) / 50 ≡ (m + 1) / 10 + m / 50
one-stalled m true true e f =
    let h : (m + 1) % 10 ≡ 0 = grind (arith, nat_tests) in
    let k : (m + 1) % 25 ≡ 0 = grind (arith, nat_tests) in
    omega (arith, h, k)
one-stalled m true false e f =
    let h : (m + 1) % 10 ≡ 0 = grind (arith, nat_tests) in
    let k : 0 < (m + 1) % 25 = grind (arith, nat_tests) in
    omega (arith, h, k)
one-stalled m false true e f =
    let h : 0 < (m + 1) % 10 = grind (arith, nat_tests) in
    omega (arith, h)
one-stalled m false false e f =
    let h : 0 < (m + 1) % 10 = grind (arith, nat_tests) in
    omega (arith, h)

-- all events

abbrev results_from : ℕ → ℕ → ℕ → List EventResult
results_from count m state = map (event_result generated_job) (events_from count (m + 1) state)

counted-one : (test : EventStatus → Bool) (m state : ℕ) →
    counted (test (event_result generated_job (event_of (m + 1) state)).status)
    ≡ counted (test (status_at (m + 1)))
counted-one test m state = ap (λ s. counted (test s)) (status-is (m + 1) state (omega arith))

failed-from : (count m state : ℕ) → tally is_failed (results_from count m state) + m / 25 ≡ (m + count) / 25
unfolding events_from
failed-from zero m state = omega arith
failed-from (suc count) m state =
    let later = failed-from count (m + 1) (state_behind (m + 1) state) in
    let one = counted-one is_failed m state ∙ ap counted
    (failed-test (lacks_hits (m + 1)) (divides_by_zero (m + 1))) in
    let more = one-failed m (divides_by_zero (m + 1)) refl in
    omega (arith, later, one, more)

stalled-from : (count m state : ℕ) → tally is_stalled (results_from count m state) + m / 10 + (m + count) / 50
    ≡ (m + count) / 10 + m / 50
unfolding events_from
stalled-from zero m state = omega arith
stalled-from (suc count) m state =
    let later = stalled-from count (m + 1) (state_behind (m + 1) state) in
    let one = counted-one is_stalled m state ∙ ap counted
    (stalled-test (lacks_hits (m + 1)) (divides_by_zero (m + 1))) in
    let more = one-stalled m (lacks_hits (m + 1)) (divides_by_zero (m + 1)) refl refl in
    omega (arith, later, one, more)

results-length : (count m state : ℕ) → length (results_from count m state) ≡ count
unfolding events_from
results-length zero m state = refl
results-length (suc count) m state = ap suc (results-length count (m + 1) (state_behind (m + 1) state))

tally-all : (results : List EventResult) →
    tally is_ok results + tally is_failed results + tally is_stalled results ≡ length results
tally-all [] = refl
tally-all (r ∷ results) =
    let one = by r.status in
    let later = tally-all results in
    omega (arith, one, later)
  where
    by : (s : EventStatus) → counted (is_ok s) + counted (is_failed s) + counted (is_stalled s) ≡ 1
    by status.Ok = refl
    by status.Failed = refl
    by status.Stalled = refl

pub failed-count : (start events : ℕ) → tally is_failed (results_of start events) ≡ events / 25
failed-count start events = let all = failed-from events 0 start in omega (arith, all)

pub stalled-count : (start events : ℕ) → tally is_stalled (results_of start events)
    ≡ events / 10 - events / 50
stalled-count start events = let all = stalled-from events 0 start in omega (arith, all)

pub ok-count : (start events : ℕ) → tally is_ok (results_of start events)
    ≡ events - events / 25 - (events / 10 - events / 50)
ok-count start events =
    let failed = failed-count start events in
    let stalled = stalled-count start events in
    let all = tally-all (results_of start events) ∙ results-length events 0 start in
    omega (arith, all, failed, stalled)
