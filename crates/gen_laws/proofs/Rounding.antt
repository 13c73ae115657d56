-- The rounds of one generated event, with hits and without them, and the status that its results come to.
use Rattle.std.proofs.Common.{◌≡◌, ℕ, Bool, true, false, ℤ, pos, int_div, int_lt, if◌then◌else◌, ◌<◌, List, [], ◌∷◌, Option, Some, None, refl, ap, ◌∙◌}
use Rattle.gen_laws.proofs.Executing.{cut-run, divided as divided-some, divided-zero, summed}
use Rattle.gen_laws.specs.GeneratedJob.{cut_above_500, generated_job, ratio, sum_of_hits}
use Rattle.hive_gen.specs.Events.{hits_drawn}
use Rattle.hive_model.specs.Call.{total}
use Rattle.hive_model.specs.Closure.{closure, round, rounds}
use Rattle.hive_model.specs.Decision.{decision, decision_within, node_decision}
use Rattle.hive_model.specs.Enabled.{can_run, is_ready}
use Rattle.hive_model.specs.Event.{ends_of, event_result, result_of, status_of}
use Rattle.hive_model.specs.EventRecord.{EventRecord}
use Rattle.hive_model.specs.Execution.{Execution, execution}
use Rattle.hive_model.specs.Live.{is_live}
use Rattle.hive_model.specs.Reached.{entered, reached, reached_within}
use Rattle.hive_model.specs.Results.{Results, outcomes, store}
use Rattle.hive_model.specs.declared.decision.EventStatus.{EventStatus}
use Rattle.hive_model.specs.declared.decision.EventStatus.TheVariants as status
use Rattle.hive_model.specs.declared.outcome.Fault.{Fault}
use Rattle.hive_model.specs.declared.outcome.Outcome.{Outcome}
use Rattle.hive_model.specs.declared.outcome.Outcome.TheVariants as outcome
use Rattle.hive_model.specs.declared.outcome.Place.{Place}
use Rattle.hive_model.specs.declared.product.Product.{Product}
use Rattle.hive_model.specs.declared.product.Product.TheVariants as product

abbrev pub with_cells : ℕ → Option Product → ℤ → EventRecord
with_cells number hits divisor = record { event = number; cells = hits ∷ Some (product.Num divisor) ∷ [] }

abbrev ran : Option Execution → Option Execution → Option Execution → Results
ran first second third = first ∷ second ∷ third ∷ []

abbrev left : Outcome → List Product → Execution
left how outputs = record { outcome = how; outputs = outputs }

abbrev divided : ℤ → Execution
divided divisor = execution ratio (product.Num divisor ∷ [])

-- without hits `Ratio` alone runs

lacking-first : (number : ℕ) (divisor : ℤ) →
    round generated_job (with_cells number None divisor) (ran None None None)
    ≡ ran None None (Some (divided divisor))
unfolding round can_run is_ready reached reached_within entered decision decision_within node_decision store
lacking-first number divisor = refl

lacking-later : (number : ℕ) (divisor : ℤ) (third : Execution) →
    round generated_job (with_cells number None divisor) (ran None None (Some third))
    ≡ ran None None (Some third)
unfolding round can_run is_ready reached reached_within entered decision decision_within node_decision store
lacking-later number divisor third = refl

-- with hits the total is cut in the second round

having-first : (number : ℕ) (xs : List ℤ) (divisor : ℤ) →
    round generated_job (with_cells number (Some (product.List xs)) divisor) (ran None None None)
    ≡ ran (Some (execution sum_of_hits (product.List xs ∷ []))) None (Some (divided divisor))
unfolding round can_run is_ready reached reached_within entered decision decision_within node_decision store
having-first number xs divisor = refl

having-second : (number : ℕ) (xs : List ℤ) (divisor z : ℤ) (third : Execution) →
    round generated_job (with_cells number (Some (product.List xs)) divisor)
    (ran (Some (left outcome.Accepted (product.Num z ∷ []))) None (Some third))
    ≡ ran (Some (left outcome.Accepted (product.Num z ∷ [])))
    (Some (execution cut_above_500 (product.Num z ∷ []))) (Some third)
unfolding round can_run is_ready reached reached_within entered decision decision_within node_decision store
having-second number xs divisor z third = refl

abbrev cut-left : Bool → Execution
cut-left passed = left (if passed then outcome.Accepted else outcome.Rejected) []

abbrev all-ran : ℤ → Bool → Execution → Results
all-ran z passed third = ran (Some (left outcome.Accepted (product.Num z ∷ []))) (Some (cut-left passed))
    (Some third)

having-third : (number : ℕ) (xs : List ℤ) (divisor z : ℤ) (passed : Bool) (third : Execution) →
    round generated_job (with_cells number (Some (product.List xs)) divisor) (all-ran z passed third)
    ≡ all-ran z passed third
unfolding round can_run is_ready reached reached_within entered decision decision_within node_decision store
having-third number xs divisor z true third = refl
having-third number xs divisor z false third = refl

-- three rounds

lacking-closure : (number : ℕ) (divisor : ℤ) →
    closure generated_job (with_cells number None divisor) ≡ ran None None (Some (divided divisor))
unfolding closure rounds
lacking-closure number divisor =
    let turn = round generated_job (with_cells number None divisor) in
    let later = lacking-later number divisor (divided divisor) in
    ap (λ r. turn (turn r)) (lacking-first number divisor) ∙ (ap turn later ∙ later)

having-closure : (number state : ℕ) (divisor : ℤ) →
    closure generated_job (with_cells number (Some (product.List (hits_drawn state))) divisor)
    ≡ all-ran (total (hits_drawn state)) (int_lt (pos 500) (total (hits_drawn state))) (divided divisor)
unfolding closure rounds
having-closure number state divisor =
    let xs = hits_drawn state in
    let z = total xs in
    let third = divided divisor in
    let turn = round generated_job (with_cells number (Some (product.List xs)) divisor) in
    let first : turn (ran None None None) ≡ ran (Some (left outcome.Accepted (product.Num z ∷ []))) None
    (Some third) =
    having-first number xs divisor ∙ ap (λ it. ran (Some it) None (Some third)) (summed state) in
    let second : turn (ran (Some (left outcome.Accepted (product.Num z ∷ []))) None (Some third))
    ≡ all-ran z (int_lt (pos 500) z) third =
    having-second number xs divisor z third
    ∙ ap (λ it. ran (Some (left outcome.Accepted (product.Num z ∷ []))) (Some it) (Some third)) (cut-run z) in
    ap (λ r. turn (turn r)) first ∙ (ap turn second
    ∙ having-third number xs divisor z (int_lt (pos 500) z) third)

-- statuses

abbrev status_by : Results → EventStatus
status_by results = status_of (ends_of generated_job (outcomes results))

status-is : (event : EventRecord) → (event_result generated_job event).status
    ≡ status_by (closure generated_job event)
unfolding event_result result_of
status-is event = refl

lacking-done : (outputs : List Product) → status_by (ran None None (Some (left outcome.Accepted outputs)))
    ≡ status.Stalled
unfolding ends_of status_of reached reached_within entered decision decision_within node_decision is_live
lacking-done outputs = refl

lacking-failed : (at : Place) (fault : Fault) → status_by
    (ran None None (Some (left (outcome.Failed at fault) []))) ≡ status.Failed
unfolding ends_of status_of reached reached_within entered decision decision_within node_decision is_live
lacking-failed at fault = refl

having-done : (z : ℤ) (passed : Bool) (outputs : List Product) →
    status_by (all-ran z passed (left outcome.Accepted outputs)) ≡ status.Ok
unfolding ends_of status_of
having-done z true outputs = refl
having-done z false outputs = refl

having-failed : (z : ℤ) (passed : Bool) (at : Place) (fault : Fault) →
    status_by (all-ran z passed (left (outcome.Failed at fault) [])) ≡ status.Failed
unfolding ends_of status_of
having-failed z true at fault = refl
having-failed z false at fault = refl

-- the status of an event with or without hits, whose divisor is 0 or isn't

pub lacking-zero : (number : ℕ) → (event_result generated_job (with_cells number None (pos 0))).status
    ≡ status.Failed
lacking-zero number =
    status-is (with_cells number None (pos 0))
    ∙ (ap status_by (lacking-closure number (pos 0) ∙ ap (λ it. ran None None (Some it)) divided-zero)
    ∙ lacking-failed _ _)

pub lacking-some : (number d : ℕ) → 0 < d → (event_result generated_job
    (with_cells number None (pos d))).status ≡ status.Stalled
lacking-some number d some =
    status-is (with_cells number None (pos d))
    ∙ (ap status_by (lacking-closure number (pos d)
    ∙ ap (λ it. ran None None (Some it)) (divided-some d some))
    ∙ lacking-done (product.Num (int_div (pos 100) (pos d)) ∷ []))

pub having-zero : (number state : ℕ) →
    (event_result generated_job (with_cells number (Some (product.List (hits_drawn state))) (pos 0))).status
    ≡ status.Failed
having-zero number state =
    let z = total (hits_drawn state) in
    status-is (with_cells number (Some (product.List (hits_drawn state))) (pos 0))
    ∙ (ap status_by (having-closure number state (pos 0) ∙ ap (all-ran z (int_lt (pos 500) z)) divided-zero)
    ∙ having-failed z (int_lt (pos 500) z) _ _)

pub having-some : (number state d : ℕ) → 0 < d →
    (event_result generated_job (with_cells number (Some (product.List (hits_drawn state))) (pos d))).status
    ≡ status.Ok
having-some number state d some =
    let z = total (hits_drawn state) in
    status-is (with_cells number (Some (product.List (hits_drawn state))) (pos d))
    ∙ (ap status_by (having-closure number state (pos d)
    ∙ ap (all-ran z (int_lt (pos 500) z)) (divided-some d some))
    ∙ having-done z (int_lt (pos 500) z) (product.Num (int_div (pos 100) (pos d)) ∷ []))
