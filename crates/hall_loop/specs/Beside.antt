-- A loop beside workers, and what its calls say.
--
-- While the workers run, no pass can see what the others have entered beyond what it has seen. So the contract has two
-- halves. Of the records that the loop admitted itself all is known: their places are told when they are admitted, and
-- a result that was told for such a place is its record's. That the scheduler has admitted nothing else, and ended
-- nothing else, holds where the others only work (`OthersWork`), which is known when they have returned.
use Rattle.std.specs.Prelude.{◌≡◌, ℕ, ◌+◌, ◌*◌, ◌<◌, ◌≤◌, Bool, false, is_some, List, [], ◌∷◌, ◌++◌, length, take, Option, Some, None, IsSomeAnd, slice_get, Result, Ok, Err}
use Rattle.event_loop.specs.Loop.{IsResultOf}
use Rattle.event_loop.specs.Running.{IsTallied}
use Rattle.event_loop.specs.Waiting.{Waits, waiting_at}
use Rattle.expr_code.specs.Claim.{Claim as Work}
use Rattle.hall_loop.specs.Others.{OthersWork}
use Rattle.hall_loop.specs.declared.ending.Ended.{Ended}
use Rattle.hall_loop.specs.declared.ending.Ended.TheVariants as ended
use Rattle.hall_loop.specs.declared.hall_loop.HallLoop.{HallLoop}
use Rattle.hall_loop.specs.declared.step.Fault.{Fault}
use Rattle.hall_loop.specs.declared.step.Fault.TheVariants as fault
use Rattle.hall_loop.specs.declared.step.Step.{Step}
use Rattle.hall_loop.specs.declared.step.Step.TheVariants.{Result as Came, Went, Idle, Over, NoMemory, Lost}
use Rattle.hive_hall.specs.Legal.{IsHistoryOf}
use Rattle.hive_hall.specs.Pass.{IsPassOf, job_of, own, seen, slots_of, took}
use Rattle.hive_hall.specs.declared.hall.Hall.{Hall}
use Rattle.hive_hall.specs.declared.pass.Pass.{Pass}
use Rattle.hive_model.specs.EventRecord.{EventRecord}
use Rattle.hive_model.specs.EventResult.{EventResult}
use Rattle.hive_model.specs.History.{DeskState, is_stopped, records_of}
use Rattle.hive_model.specs.declared.item.Item.{Item}
use Rattle.hive_workers.specs.Outstanding.{AreAccounted, state_after}
use Rattle.report_text.specs.declared.counts.Counts.{Counts}
use Rattle.scheduler_core.specs.Says.{IsIdle, IsOver, is_closed}
use Rattle.scheduler_core.specs.State.{InState}

-- the first so many records that were admitted, of what the pass has seen
abbrev pub first_of : Pass → ℕ → List EventRecord
first_of p admitted = take admitted (records_of (seen p))

-- the records that the loop admitted
abbrev pub given_of : HallLoop → List EventRecord
given_of it = first_of it.pass it.admitted

-- each result that waits is its record's
abbrev pub AreResultsOf : Hall → List EventRecord → ℕ → Waits → Type 0
AreResultsOf hall given handed waiting = (i : ℕ) (r : EventResult) → waiting_at waiting i ≡ Some r →
    IsSomeAnd (slice_get given (handed + i)) (λ event. IsResultOf (job_of hall) event r)

-- the scheduler core has admitted and ended what the loop did, and nothing else
pub record IsToldBy (waiting : Waits) (counts : Counts) (admitted handed : ℕ) (closed : Bool) (d : DeskState) :
    Type 0 where
  pub tally : IsTallied d waiting handed counts
  pub all : length d.admitted ≡ admitted
  pub last : is_closed d ≡ closed

pub record Keeps (hall : Hall) (p : Pass) (waiting : Waits) (counts : Counts) (slots admitted handed : ℕ)
    (closed : Bool) : Type 0 where
  pub pass : IsPassOf hall p
  pub slots_are : slots ≡ slots_of hall
  pub known : admitted ≤ length (records_of (seen p))
  pub results : AreResultsOf hall (first_of p admitted) handed waiting
  pub told : OthersWork hall p → (d : DeskState) → IsHistoryOf (job_of hall) (slots_of hall) (seen p) d →
      IsToldBy waiting counts admitted handed closed d

-- what is true of a loop between two calls
abbrev pub IsBeside : Hall → HallLoop → Type 0
IsBeside hall it = Keeps hall it.pass it.waiting it.counts it.slots it.admitted it.handed it.closed

-- no claim that the pass added is outstanding after what it has seen, but for those of this work
abbrev pub HoldsOnly : Hall → Pass → List Work → Type 0
HoldsOnly hall p works = IsSomeAnd (state_after hall (seen p)) (AreAccounted (seen p) (own p) works)

-- so it is between two calls of a loop: what it claimed it has handed in, or put back
abbrev pub HoldsNothing : Hall → Pass → Type 0
HoldsNothing hall p = HoldsOnly hall p []

-- the result of the next record waits to be handed out
abbrev pub has_waiting : HallLoop → Bool
has_waiting it = is_some (waiting_at it.waiting 0)

-- an event may be admitted
pub record HasRoomBeside (it : HallLoop) : Type 0 where
  pub on : it.closed ≡ false
  pub free : it.admitted < it.counts.events + it.slots
  pub few : it.admitted < it.handed + 2 * it.slots

-- nothing came in, and nothing went out
pub record GoesOn (old new : HallLoop) : Type 0 where
  pub given : given_of new ≡ given_of old
  pub handed : new.handed ≡ old.handed

-- the others don't only work
abbrev pub IsLost : Hall → HallLoop → Type 0
IsLost hall it = OthersWork hall it.pass → ⊥

-- admit

pub record BringsIn (old : HallLoop) (event : EventRecord) (new : HallLoop) : Type 0 where
  pub given : given_of new ≡ given_of old ++ event ∷ []
  pub handed : new.handed ≡ old.handed

abbrev pub AdmitsBeside : Hall → HallLoop → EventRecord → Result (Unit {0}) Fault → HallLoop → Type 0
AdmitsBeside hall old event (Ok it) new = BringsIn old event new
AdmitsBeside hall old event (Err fault.NoMemory) new = GoesOn old new
AdmitsBeside hall old event (Err fault.Lost) new = GoesOn old new × IsLost hall new

-- steps

-- the result of the next record was handed out
pub record HandsOutBeside (hall : Hall) (old : HallLoop) (r : EventResult) (new : HallLoop) : Type 0 where
  pub given : given_of new ≡ given_of old
  pub handed : new.handed ≡ old.handed + 1
  pub result : IsSomeAnd (slice_get (given_of old) old.handed) (λ event. IsResultOf (job_of hall) event r)

abbrev pub TakesBeside : Hall → HallLoop → Option EventResult → HallLoop → Type 0
TakesBeside hall old (Some r) new = HandsOutBeside hall old r new
TakesBeside hall old None new = GoesOn old new

abbrev pub EndsBeside : Hall → HallLoop → Ended → HallLoop → Type 0
EndsBeside hall old ended.One new = GoesOn old new
EndsBeside hall old ended.None new = GoesOn old new
EndsBeside hall old ended.Lost new = GoesOn old new × IsLost hall new

abbrev pub StepSays : Hall → HallLoop → Step → HallLoop → Type 0
StepSays hall old (Came r) new = HandsOutBeside hall old r new
StepSays hall old Went new = GoesOn old new
StepSays hall old Idle new = GoesOn old new
StepSays hall old Over new = GoesOn old new
StepSays hall old NoMemory new = GoesOn old new
StepSays hall old Lost new = GoesOn old new × IsLost hall new

-- nothing will be claimed any more: the participants were told to stop, or no event is in flight and none comes
abbrev pub HasNoWork : Hall → List Item → Type 0
HasNoWork hall items = is_stopped items ≡ false → IsSomeAnd (state_after hall items) IsOver

-- how much a pass has done: the items that it added, and the results that it took from the queue
abbrev pub deeds : Pass → ℕ
deeds p = length (own p) + length (took p)

-- a step that went on has done at least so much
abbrev pub HasDone : ℕ → Step → Pass → Pass → Type 0
HasDone count (Came r) p q = Unit {0}
HasDone count Went p q = count + deeds p ≤ deeds q
HasDone count Idle p q = Unit {0}
HasDone count Over p q = Unit {0}
HasDone count NoMemory p q = Unit {0}
HasDone count Lost p q = Unit {0}

-- nothing may be claimed now, though an event is in flight or may still come, and nobody was told to stop
pub record FindsNothing (hall : Hall) (items : List Item) : Type 0 where
  pub on : is_stopped items ≡ false
  pub core : DeskState
  pub legal : IsHistoryOf (job_of hall) (slots_of hall) items core
  pub running : ℕ
  pub idle : InState core (IsIdle core running)

-- what the loop has seen of why its step came to this; why it lost track stands in StepSays
abbrev pub HasCause : Hall → Step → HallLoop → Type 0
HasCause hall (Came r) new = Unit {0}
HasCause hall Went new = Unit {0}
HasCause hall Idle new = FindsNothing hall (seen new.pass)
HasCause hall Over new = HasNoWork hall (seen new.pass)
HasCause hall NoMemory new = Unit {0}
HasCause hall Lost new = Unit {0}
