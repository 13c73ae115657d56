-- Results at rest: no algorithm can run in them, or none is enabled; and results that have the same executions.
use Rattle.std.specs.Prelude.{◌≡◌, ℕ, false}
use Rattle.hive_model.specs.Enabled.{can_run, enabled}
use Rattle.hive_model.specs.EventRecord.{EventRecord}
use Rattle.hive_model.specs.Job.{Job}
use Rattle.hive_model.specs.Results.{Results, ran_at}

abbrev pub NothingCanRun : Job → EventRecord → Results → Type 0
NothingCanRun job event ran = (number : ℕ) → can_run job event ran number ≡ false

abbrev pub NothingIsEnabled : Job → EventRecord → Results → Type 0
NothingIsEnabled job event ran = (number : ℕ) → enabled job event ran number ≡ false

-- one list may be longer than the other
abbrev pub HaveSameExecutions : Results → Results → Type 0
HaveSameExecutions ran others = (number : ℕ) → ran_at ran number ≡ ran_at others number
