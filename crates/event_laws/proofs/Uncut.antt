-- In a job without cut nodes nothing is cut off: everything is live, so what can run is enabled, and no end is Withdrawn.
use Rattle.std.proofs.Common.{◌≡◌, ◌≢◌, ℕ, ◌+◌, ◌<◌, Bool, true, false, not, ◌&&◌, List, [], ◌∷◌, length, get_or, Option, Some, None, Contains, refl, sym, ap, ◌∙◌, arith}
use Rattle.std.specs.List.{AllByRecursion, enumerate_from, list_any}
use Rattle.std.proofs.lemmas.Bool.{and_left, or_from}
use Rattle.std.proofs.lemmas.List.FromFn.{length-map-range_with_len, get_or-map-range_with_len}
use Rattle.event_laws.proofs.Meaning.{result-same}
use Rattle.event_laws.proofs.Within.{settled-closure}
use Rattle.event_laws.specs.Rest.{NothingCanRun, NothingIsEnabled, HaveSameExecutions}
use Rattle.event_laws.specs.Uncut.{HasNoCut}
use Rattle.hive_model.specs.Agreement.{AreWithin}
use Rattle.hive_model.specs.Below.{is_algorithm_below, is_sequence_below}
use Rattle.hive_model.specs.Closure.{closure}
use Rattle.hive_model.specs.Decision.{decision, is_undecided}
use Rattle.hive_model.specs.Enabled.{is_ready_in, can_run, is_enabled, enabled}
use Rattle.hive_model.specs.Event.{end_by, end_of, ends_of, result_of, event_result}
use Rattle.hive_model.specs.EventRecord.{EventRecord}
use Rattle.hive_model.specs.Job.{Job}
use Rattle.hive_model.specs.Live.{is_cutting, cuts_algorithm, cuts_sequence, is_live, is_live_sequence}
use Rattle.hive_model.specs.Reached.{reached, is_reached}
use Rattle.hive_model.specs.Results.{Results, outcomes, outcome_at}
use Rattle.hive_model.specs.Sequence.{Sequence}
use Rattle.hive_model.specs.declared.decision.End.TheVariants as ends
use Rattle.hive_model.specs.declared.outcome.Outcome.{Outcome}
use Rattle.hive_model.specs.declared.outcome.Outcome.TheVariants as outcome
use Rattle.hive_model.specs.declared.product.Product.{Product}
use Rattle.hive_model.specs.declared.sequence.Member.TheVariants.{Seq}

-- a test that only cut nodes pass
none-cuts : (cuts : ℕ × Sequence → Bool) → ((s : ℕ) (q : Sequence) → q.cut ≡ false → cuts (s, q) ≡ false) → (from : ℕ) (sequences : List Sequence) →
    AllByRecursion (λ (q : Sequence). q.cut ≡ false) sequences → list_any cuts (enumerate_from from sequences) ≡ false
none-cuts cuts h from [] all = refl
none-cuts cuts h from (q ∷ sequences) all = or_from (cuts (from, q)) _ (h from q all.0) (none-cuts cuts h (from + 1) sequences all.1)

not-cutting : (job : Job) (ran : List (Option Outcome)) (s : ℕ) (q : Sequence) → q.cut ≡ false → is_cutting job ran (s, q) ≡ false
not-cutting job ran s q e = and_left q.cut (not (is_undecided (decision job ran (Seq s)))) e

pub uncut-live : (job : Job) (ran : List (Option Outcome)) (number : ℕ) → HasNoCut job → is_live job ran number ≡ true
unfolding is_live
uncut-live job ran number none =
    ap not (none-cuts (cuts_algorithm job ran number) (λ s q e. and_left (is_cutting job ran (s, q)) (is_algorithm_below job s number) (not-cutting job ran s q e))
    0 job.sequences none)

pub uncut-live_sequence : (job : Job) (ran : List (Option Outcome)) (number : ℕ) → HasNoCut job → is_live_sequence job ran number ≡ true
unfolding is_live_sequence
uncut-live_sequence job ran number none =
    ap not (none-cuts (cuts_sequence job ran number) (λ s q e. and_left (is_cutting job ran (s, q)) (is_sequence_below job s number) (not-cutting job ran s q e))
    0 job.sequences none)

and-true : (a b : Bool) → b ≡ true → (a && b) ≡ a
and-true true b e = e
and-true false b e = refl

pub uncut-enabled : (job : Job) (event : EventRecord) (ran : Results) (number : ℕ) → HasNoCut job → enabled job event ran number ≡ can_run job event ran number
unfolding enabled
uncut-enabled job event ran number none = and-true (can_run job event ran number) _ (uncut-live job (outcomes ran) number none)

pub uncut-ready : (job : Job) (ran : List (Option Outcome)) (places : List (Option Product)) (number : ℕ) → HasNoCut job →
    is_enabled job ran places number ≡ is_ready_in job ran places number
unfolding is_enabled
uncut-ready job ran places number none = and-true (is_ready_in job ran places number) _ (uncut-live job ran number none)

-- how an algorithm ends that is live
live-end : (is_reached live : Bool) (o : Option Outcome) → live ≡ true → end_by is_reached live o ≢ ends.Withdrawn
live-end is_reached live (Some outcome.Accepted) e = λ same. cc
live-end is_reached live (Some outcome.Rejected) e = λ same. cc
live-end is_reached live (Some (outcome.Failed at fault)) e = λ same. cc
live-end false live None e = λ same. cc
live-end true true None e = λ same. cc
live-end true false None e = λ same. cc

pub uncut-end : (job : Job) (ran : List (Option Outcome)) (number : ℕ) → HasNoCut job → end_of job ran number ≢ ends.Withdrawn
uncut-end job ran number none = live-end (is_reached (reached job ran) number) (is_live job ran number) (outcome_at ran number) (uncut-live job ran number none)

pub uncut-ends : (job : Job) (ran : List (Option Outcome)) → HasNoCut job → Contains (ends_of job ran) ends.Withdrawn → ⊥
unfolding ends_of
uncut-ends job ran none there =
    let count = length job.algorithms in
    let within : there.0 < count = omega (arith, length-map-range_with_len (end_of job ran) 0 count) in
    let at : get_or (ends_of job ran) there.0 ends.Withdrawn ≡ end_of job ran there.0 =
    get_or-map-range_with_len (end_of job ran) 0 count there.0 there.0 ends.Withdrawn within (omega arith)
    in
    uncut-end job ran there.0 none (sym at ∙ there.2)

-- so results within the closure in which nothing is enabled have its executions, and come to the event's result

uncut-settled : (job : Job) (event : EventRecord) (ran : Results) → HasNoCut job → NothingIsEnabled job event ran → NothingCanRun job event ran
uncut-settled job event ran none h number = sym (uncut-enabled job event ran number none) ∙ h number

pub uncut-closure : (job : Job) (event : EventRecord) (ran : Results) → HasNoCut job → AreWithin ran (closure job event) →
    NothingIsEnabled job event ran → HaveSameExecutions ran (closure job event)
uncut-closure job event ran none within h = settled-closure job event ran within (uncut-settled job event ran none h)

pub uncut-result : (job : Job) (event : EventRecord) (ran : Results) → HasNoCut job → AreWithin ran (closure job event) →
    NothingIsEnabled job event ran → result_of job event ran ≡ event_result job event
unfolding event_result
uncut-result job event ran none within h = result-same job event ran (closure job event) (uncut-closure job event ran none within h)
