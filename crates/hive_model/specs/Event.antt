-- The result of an event: the decision of each sequence, the end of each algorithm, and the store. An event has failed if an
-- algorithm has; else it is stalled if a reached and live algorithm has not run, also where the top is decided; else it is ok.
use Rattle.std.specs.Prelude.{ℕ, Bool, true, false, if◌then◌else◌, List, length, map, Option, Some, None}
use Rattle.std.specs.List.{list_any, range_with_len}
use Rattle.hive_model.specs.Closure.{closure}
use Rattle.hive_model.specs.Decision.{decision}
use Rattle.hive_model.specs.EventRecord.{EventRecord}
use Rattle.hive_model.specs.EventResult.{EventResult}
use Rattle.hive_model.specs.Job.{Job}
use Rattle.hive_model.specs.Live.{is_live}
use Rattle.hive_model.specs.Reached.{reached, is_reached}
use Rattle.hive_model.specs.Results.{Results, outcomes, outcome_at, store}
use Rattle.hive_model.specs.declared.decision.Decision.{Decision}
use Rattle.hive_model.specs.declared.decision.End.{End}
use Rattle.hive_model.specs.declared.decision.End.TheVariants as ends
use Rattle.hive_model.specs.declared.decision.EventStatus.{EventStatus}
use Rattle.hive_model.specs.declared.decision.EventStatus.TheVariants as status
use Rattle.hive_model.specs.declared.outcome.Outcome.{Outcome}
use Rattle.hive_model.specs.declared.outcome.Outcome.TheVariants as outcome
use Rattle.hive_model.specs.declared.sequence.Member.TheVariants.{Seq}

-- the decision of each sequence, in written order
abbrev pub decisions_of : Job → List (Option Outcome) → List Decision
decisions_of job ran = map (λ s. decision job ran (Seq s)) (range_with_len 0 (length job.sequences))

-- how an algorithm ends that hasn't run, by whether it is reached and whether it is live
abbrev pub end_unrun : Bool → Bool → End
end_unrun false live = ends.Initial
end_unrun true false = ends.Withdrawn
end_unrun true true = ends.ControlReady

abbrev pub end_by : Bool → Bool → Option Outcome → End
end_by entered live (Some outcome.Accepted) = ends.Accepted
end_by entered live (Some outcome.Rejected) = ends.Rejected
end_by entered live (Some (outcome.Failed at fault)) = ends.Failed at fault
end_by entered live None = end_unrun entered live

abbrev pub end_of : Job → List (Option Outcome) → ℕ → End
end_of job ran number = end_by (is_reached (reached job ran) number) (is_live job ran number) (outcome_at ran number)

-- the end of each algorithm, in written order
unfoldable pub ends_of : Job → List (Option Outcome) → List End
ends_of job ran = map (end_of job ran) (range_with_len 0 (length job.algorithms))

abbrev pub is_failed : End → Bool
is_failed ends.Initial = false
is_failed ends.ControlReady = false
is_failed ends.Withdrawn = false
is_failed ends.Accepted = false
is_failed ends.Rejected = false
is_failed (ends.Failed at fault) = true

abbrev pub is_waiting : End → Bool
is_waiting ends.Initial = false
is_waiting ends.ControlReady = true
is_waiting ends.Withdrawn = false
is_waiting ends.Accepted = false
is_waiting ends.Rejected = false
is_waiting (ends.Failed at fault) = false

unfoldable pub status_of : List End → EventStatus
status_of xs = if list_any is_failed xs then status.Failed else (if list_any is_waiting xs then status.Stalled else status.Ok)

unfoldable pub result_of : Job → EventRecord → Results → EventResult
result_of job event ran = record {
  event = event.event;
  status = status_of (ends_of job (outcomes ran));
  decisions = decisions_of job (outcomes ran);
  ends = ends_of job (outcomes ran);
  store = store job event ran;
}

-- the meaning of one event by itself
unfoldable pub event_result : Job → EventRecord → EventResult
event_result job event = result_of job event (closure job event)
