-- What the status of an event tells: which algorithm faulted, which one waits, and what it waits for.
use Rattle.std.specs.Prelude.{◌≡◌, ◌≢◌, ◌⊎◌, ℕ, ◌<◌, Bool, true, false, length, Some, None, Contains, slice_get}
use Rattle.event_laws.specs.Outputs.{IsOutput}
use Rattle.hive_model.specs.Algorithm.{Algorithm}
use Rattle.hive_model.specs.Closure.{closure, execution_in}
use Rattle.hive_model.specs.Enabled.{product_in}
use Rattle.hive_model.specs.EventRecord.{EventRecord}
use Rattle.hive_model.specs.EventResult.{EventResult}
use Rattle.hive_model.specs.Job.{Job}
use Rattle.hive_model.specs.declared.decision.Decision.{Decision}
use Rattle.hive_model.specs.declared.decision.Decision.TheVariants.{Undecided}
use Rattle.hive_model.specs.declared.decision.End.{End}
use Rattle.hive_model.specs.declared.decision.End.TheVariants as ends
use Rattle.hive_model.specs.declared.outcome.Fault.{Fault}
use Rattle.hive_model.specs.declared.outcome.Outcome.TheVariants as outcome
use Rattle.hive_model.specs.declared.outcome.Place.{Place}

-- an algorithm of the event ended with a fault
pub record HasFault (result : EventResult) : Type 0 where
  pub number : ℕ
  pub at : Place
  pub fault : Fault
  pub there : slice_get result.ends number ≡ Some (ends.Failed at fault)

-- the execution of that algorithm over the event's products faults there
pub record IsFaultOf (job : Job) (event : EventRecord) (number : ℕ) (at : Place)
    (fault : Fault) : Type 0 where
  pub algorithm : Algorithm
  pub there : slice_get job.algorithms number ≡ Some algorithm
  pub outcome : (execution_in job event (closure job event) algorithm).outcome ≡ outcome.Failed at fault

-- the algorithm was reached and hasn't run, though nothing cut it off
abbrev pub IsWaiting : EventResult → ℕ → Type 0
IsWaiting result number = slice_get result.ends number ≡ Some ends.ControlReady

pub record HasWaiting (result : EventResult) : Type 0 where
  pub number : ℕ
  pub there : IsWaiting result number

-- an end of an algorithm that has run
abbrev pub has_run : End → Bool
has_run ends.Initial = false
has_run ends.ControlReady = false
has_run ends.Withdrawn = false
has_run ends.Accepted = true
has_run ends.Rejected = true
has_run (ends.Failed at fault) = true

-- the handle is a cell that the record lacks
abbrev pub IsAbsentCell : Job → EventRecord → ℕ → Type 0
IsAbsentCell job event handle = (handle < length job.raws) × (product_in event.cells handle ≡ None)

-- the handle is an output of an algorithm that hasn't run
pub record IsUnrunOutput (job : Job) (result : EventResult) (handle : ℕ) : Type 0 where
  pub number : ℕ
  pub index : ℕ
  pub output : IsOutput job number index handle
  pub end : End
  pub there : slice_get result.ends number ≡ Some end
  pub unrun : has_run end ≡ false

-- an input of the algorithm is missing, and where it would have come from
pub record LacksInput (job : Job) (event : EventRecord) (result : EventResult) (number : ℕ) : Type 0 where
  pub algorithm : Algorithm
  pub there : slice_get job.algorithms number ≡ Some algorithm
  pub handle : ℕ
  pub takes : Contains algorithm.inputs handle
  pub missing : product_in result.store handle ≡ None
  pub origin : IsAbsentCell job event handle ⊎ IsUnrunOutput job result handle

-- the sequence is decided
pub record IsDecided (result : EventResult) (s : ℕ) : Type 0 where
  pub decision : Decision
  pub there : slice_get result.decisions s ≡ Some decision
  pub made : decision ≢ Undecided
