-- A loop as contracts see it: the desk that it runs, how many results were handed out, and the counts of
-- the events that ended. Results are handed out in the order of the records. What a turn says stands below,
-- answer by answer.
use Rattle.std.specs.Prelude.{◌≡◌, ℕ, ◌+◌, ◌*◌, ◌<◌, ◌≤◌, Bool, true, false, cond, is_none, List, [], ◌∷◌, ◌++◌, length, map, Option, IsSomeAnd, slice_get}
use Rattle.std.specs.List.{count_by, sum_by}
use Rattle.std.specs.Option.{option_map_or}
use Rattle.core_laws.specs.Once.{ended_at}
use Rattle.event_laws.specs.Uncut.{HasNoCut}
use Rattle.hive_model.specs.Agreement.{Agrees}
use Rattle.hive_model.specs.Event.{event_result}
use Rattle.hive_model.specs.EventRecord.{EventRecord}
use Rattle.hive_model.specs.EventResult.{EventResult}
use Rattle.hive_model.specs.History.{DeskState}
use Rattle.hive_model.specs.Job.{Job}
use Rattle.hive_model.specs.Machine.{Busy, Finished, Machine}
use Rattle.hive_model.specs.Replay.{IsCompleteRun, replay}
use Rattle.report_text.specs.Tallied.{CountsAll}
use Rattle.report_text.specs.declared.counts.Counts.{Counts}
use Rattle.scheduler_core.specs.Says.{is_closed, is_full, opening_desk}
use Rattle.scheduler_core.specs.State.{InState, IsDesk}
use Rattle.event_loop.specs.declared.turn.Turn.{Turn}
use Rattle.event_loop.specs.declared.turn.Turn.TheVariants.{Result, Went, Idle, Over, NoMemory}

pub record LoopState : Type 0 where
  pub desk : DeskState
  pub handed : ℕ
  pub counts : Counts

abbrev pub opening_loop : Job → ℕ → LoopState
opening_loop job slots = record {
  desk = opening_desk job slots;
  handed = 0;
  counts = record { events = 0; ok = 0; failed = 0; stalled = 0 };
}

-- a result is its record's: it agrees with it, and without cut nodes it is what the record comes to alone
pub record IsResultOf (job : Job) (event : EventRecord) (r : EventResult) : Type 0 where
  pub agrees : Agrees job event r
  pub result : HasNoCut job → r ≡ event_result job event

-- the results of the events that ended, in the order in which they ended
abbrev pub results_of : List Finished → List EventResult
results_of finished = map (λ (f : Finished). f.result) finished

pub record IsLoop (it : LoopState) : Type 0 where
  pub desk : IsDesk it.desk
  pub handed : it.handed ≤ length it.desk.admitted
  -- results that wait for their turn, and events in flight: together at most two for each slot
  pub window : length it.desk.admitted ≤ it.handed + 2 * it.desk.slots
  pub counted : InState it.desk (λ m. CountsAll (results_of m.finished) it.counts)

-- an event may be admitted
pub record HasRoom (it : LoopState) : Type 0 where
  pub on : is_closed it.desk ≡ false
  pub free : InState it.desk (λ m. is_full m ≡ false)
  pub few : length it.desk.admitted < it.handed + 2 * it.desk.slots

-- whether the event of the next record has ended, so that its result waits to be handed out
abbrev pub NextHasEnded : LoopState → Bool → Type 0
NextHasEnded it ended = InState it.desk (λ m. count_by (ended_at (it.handed + 1)) m.finished ≡ cond ended 1 0)

-- what is still to do for an event: that it ends, and its algorithms that haven't run
abbrev pub work_of : Option Busy → ℕ
work_of slot = option_map_or (λ (b : Busy). 1 + count_by is_none b.ran) slot 0

abbrev pub work_in : Machine → ℕ
work_in m = sum_by work_of m.slots

-- what is still to do in the events in flight
unfoldable pub work_at : DeskState → ℕ
work_at d = option_map_or work_in (replay d.job d.slots d.admitted d.journal) 0

abbrev pub work_left : LoopState → ℕ
work_left it = work_at it.desk

-- an event was admitted
pub record Admits (old : LoopState) (event : EventRecord) (new : LoopState) : Type 0 where
  pub job : new.desk.job ≡ old.desk.job
  pub slots : new.desk.slots ≡ old.desk.slots
  pub records : new.desk.admitted ≡ old.desk.admitted ++ event ∷ []
  pub handed : new.handed ≡ old.handed
  pub counts : new.counts ≡ old.counts
  pub on : is_closed new.desk ≡ false
  pub work : work_left new ≡ work_left old + 1 + length old.desk.job.algorithms

-- nothing came in, and nothing was handed out
pub record KeepsOn (old new : LoopState) : Type 0 where
  pub job : new.desk.job ≡ old.desk.job
  pub slots : new.desk.slots ≡ old.desk.slots
  pub records : new.desk.admitted ≡ old.desk.admitted
  pub handed : new.handed ≡ old.handed
  pub closed : is_closed new.desk ≡ is_closed old.desk

-- the result of the next record was handed out
pub record HandsOut (old : LoopState) (r : EventResult) (new : LoopState) : Type 0 where
  pub desk : new.desk ≡ old.desk
  pub counts : new.counts ≡ old.counts
  pub handed : new.handed ≡ old.handed + 1
  pub result : IsSomeAnd (slice_get old.desk.admitted old.handed) (λ event. IsResultOf old.desk.job event r)

-- every event has ended, every result was handed out, and no further event comes
pub record IsOverAt (it : LoopState) : Type 0 where
  pub all : it.handed ≡ length it.desk.admitted
  pub closed : is_closed it.desk ≡ true
  pub complete : IsCompleteRun it.desk.job it.desk.slots it.desk.admitted it.desk.journal
  pub counts : HasNoCut it.desk.job → CountsAll (map (event_result it.desk.job) it.desk.admitted) it.counts

-- nothing is in flight, and every result was handed out
pub record IsIdleAt (it : LoopState) : Type 0 where
  pub all : it.handed ≡ length it.desk.admitted
  pub room : HasRoom it

abbrev pub TurnSays : LoopState → Turn → LoopState → Type 0
TurnSays old (Result r) new = HandsOut old r new
TurnSays old Went new = KeepsOn old new × (work_left new < work_left old)
TurnSays old Idle new = (new ≡ old) × IsIdleAt old
TurnSays old Over new = (new ≡ old) × IsOverAt old
TurnSays old NoMemory new = KeepsOn old new

-- it was said that no further event comes
pub record Closes (old new : LoopState) : Type 0 where
  pub job : new.desk.job ≡ old.desk.job
  pub slots : new.desk.slots ≡ old.desk.slots
  pub records : new.desk.admitted ≡ old.desk.admitted
  pub handed : new.handed ≡ old.handed
  pub counts : new.counts ≡ old.counts
  pub closed : is_closed new.desk ≡ true
  pub work : work_left new ≡ work_left old
