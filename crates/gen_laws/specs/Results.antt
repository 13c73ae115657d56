-- The results of the generated events, and the status of each by its number: the divisor is 0 of every
-- twenty-fifth, and hits lack of every tenth.
use Rattle.std.specs.Prelude.{ℕ, if◌then◌else◌, List, map}
use Rattle.gen_laws.specs.GeneratedJob.{generated_job}
use Rattle.hive_gen.specs.Events.{divides_by_zero, events_of, lacks_hits}
use Rattle.hive_model.specs.Event.{event_result}
use Rattle.hive_model.specs.EventResult.{EventResult}
use Rattle.hive_model.specs.declared.decision.EventStatus.{EventStatus}
use Rattle.hive_model.specs.declared.decision.EventStatus.TheVariants as status

abbrev pub results_of : ℕ → ℕ → List EventResult
results_of start events = map (event_result generated_job) (events_of start events)

abbrev pub status_at : ℕ → EventStatus
status_at number =
    if divides_by_zero number then status.Failed
    else (if lacks_hits number then status.Stalled else status.Ok)
