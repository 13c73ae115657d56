-- A loop between two turns: a result waits exactly for each event that has ended and whose result wasn't handed
-- out, and nothing is outstanding in its desk. The first holds within a turn, too (`IsTallied`).
use Rattle.std.specs.Prelude.{◌≡◌, ℕ, ◌+◌, ◌*◌, ◌<◌, ◌≤◌, ◌^◌, Bool, true, false, cond, is_some, List, length, Some, IsSomeAnd, slice_get}
use Rattle.std.specs.List.{count_by}
use Rattle.core_laws.specs.Once.{ended_at}
use Rattle.event_slots.specs.Slots.{claims_out}
use Rattle.hive_model.specs.EventRecord.{EventRecord}
use Rattle.hive_model.specs.EventResult.{EventResult}
use Rattle.hive_model.specs.History.{DeskState}
use Rattle.hive_model.specs.Job.{Job}
use Rattle.hive_model.specs.Machine.{Finished, Machine}
use Rattle.hive_model.specs.Replay.{replay}
use Rattle.hive_model.specs.declared.entry.Entry.TheVariants as entry
use Rattle.report_text.specs.Tallied.{CountsAll}
use Rattle.report_text.specs.declared.counts.Counts.{Counts}
use Rattle.scheduler_core.specs.Says.{MayNotCome, admitted_to, is_closed}
use Rattle.scheduler_core.specs.State.{InState, IsDesk}
use Rattle.event_loop.specs.Loop.{IsResultOf, results_of, work_at}
use Rattle.event_loop.specs.Waiting.{Waits, waiting_at}

-- The events of the places up to `handed` have ended, and of those in the window behind them the ones whose
-- results wait. Each result that waits is that of the record at its place.
pub record AreWaiting (job : Job) (records : List EventRecord) (finished : List Finished) (handed : ℕ)
    (waiting : Waits) : Type 0 where
  pub gone : (place : ℕ) → 0 < place → place ≤ handed → count_by (ended_at place) finished ≡ 1
  pub waits : (i : ℕ) → i < length waiting →
      count_by (ended_at (handed + 1 + i)) finished ≡ cond (is_some (waiting_at waiting i)) 1 0
  pub results : (i : ℕ) (r : EventResult) → waiting_at waiting i ≡ Some r →
      IsSomeAnd (slice_get records (handed + i)) (λ event. IsResultOf job event r)

-- the state to which the journal has led, with nothing outstanding
pub record IsQuiet (d : DeskState) (m : Machine) : Type 0 where
  pub led : replay d.job d.slots d.admitted d.journal ≡ Some m
  pub slots : length m.slots ≡ d.slots
  pub quiet : claims_out m.slots ≡ 0

-- The results of the events that have ended: they are counted, those of the first places went out, and each
-- other one waits at its place. Claims may be outstanding.
pub record IsTallied (d : DeskState) (waiting : Waits) (handed : ℕ) (counts : Counts) : Type 0 where
  pub desk : IsDesk d
  -- counts are numbers of 32 bits
  pub few : length d.admitted < 2 ^ 32
  pub within : handed ≤ length d.admitted
  pub window : length d.admitted ≤ handed + 2 * d.slots
  pub room : length waiting ≡ 2 * d.slots
  pub machine : Machine
  pub led : replay d.job d.slots d.admitted d.journal ≡ Some machine
  pub slots : length machine.slots ≡ d.slots
  pub counted : CountsAll (results_of machine.finished) counts
  pub holds : AreWaiting d.job d.admitted machine.finished handed waiting

pub record IsRunning (d : DeskState) (waiting : Waits) (handed : ℕ) (counts : Counts) : Type 0 where
  pub tally : IsTallied d waiting handed counts
  -- nothing is outstanding
  pub quiet : claims_out tally.machine.slots ≡ 0

-- the desk after a turn in which no record came
pub record DeskKeeps (d after : DeskState) : Type 0 where
  pub job : after.job ≡ d.job
  pub slots : after.slots ≡ d.slots
  pub records : after.admitted ≡ d.admitted
  pub closed : is_closed after ≡ is_closed d

-- an event ended, and its result waits
pub record EndsOne (d after : DeskState) (waiting : Waits) (handed : ℕ) (counts : Counts) : Type 0 where
  pub keeps : DeskKeeps d after
  pub work : work_at after < work_at d
  pub running : IsRunning after waiting handed counts

-- no event can end
abbrev pub NoneEnds : DeskState → Type 0
NoneEnds d = InState d (λ m. (slot : ℕ) → MayNotCome d m (entry.Retire slot))

pub record EndsNone (d after : DeskState) (waiting waiting_now : Waits) (counts counts_now : Counts) :
    Type 0 where
  pub same : after ≡ d
  pub still_waiting : waiting_now ≡ waiting
  pub as_many : counts_now ≡ counts
  pub none : NoneEnds d

-- whether one ended
abbrev pub EndSays : DeskState → Bool → DeskState → Waits → Waits → ℕ → Counts → Counts → Type 0
EndSays d true after waiting waiting_now handed counts counts_now =
    EndsOne d after waiting_now handed counts_now
EndSays d false after waiting waiting_now handed counts counts_now =
    EndsNone d after waiting waiting_now counts counts_now

-- and it is known whether a further event may come
pub record IsGoing (d : DeskState) (waiting : Waits) (handed : ℕ) (counts : Counts) (closed : Bool) :
    Type 0 where
  pub running : IsRunning d waiting handed counts
  pub last : is_closed d ≡ closed

-- an event was admitted to some slot
pub record IsBrought (d : DeskState) (event : EventRecord) (after : DeskState) : Type 0 where
  pub slot : ℕ
  pub appended : after ≡ admitted_to d slot event
