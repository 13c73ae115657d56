-- A run on one thread between two steps, and how it is brought to its end.
use Rattle.std.specs.Prelude.{◌≡◌, ◌⊎◌, ℕ, ◌+◌, ◌-◌, ◌*◌, ◌<◌, Bool, List, [], ◌++◌, length, Option}
use Rattle.event_loop.specs.Loop.{IsIdleAt, IsLoop, IsOverAt, KeepsOn, LoopState, opening_loop, work_left}
use Rattle.hive_edge.specs.Fault.{Rose}
use Rattle.hive_model.specs.EventRecord.{EventRecord}
use Rattle.hive_model.specs.Job.{Job}
use Rattle.report_text.specs.declared.counts.Counts.{Counts}
use Rattle.hive_model.specs.declared.entry.Entry.{Entry}
use Rattle.scheduler_core.specs.Says.{is_closed}
use Rattle.text_model.specs.Whole.{ReadToEnd, RefusedAt, SourceFailed, last_line}
use Rattle.hive_pump.specs.Course.{Course, IsShown, reports_left}
use Rattle.hive_pump.specs.Input.{unread}
use Rattle.hive_pump.specs.Steps.{IsBroken, IsSent}
use Rattle.hive_pump.specs.Written.{AppendsPrefix, results}
use Rattle.hive_pump.specs.declared.ending.Ending.{Ending}
use Rattle.hive_pump.specs.declared.ending.Ending.TheVariants as ending
use Rattle.hive_pump.specs.declared.input.Input.{Input}
use Rattle.hive_pump.specs.declared.step.Step.{Step}
use Rattle.hive_pump.specs.declared.step.Step.TheVariants.{Went, Idle, Over, Broken, NoMemory, Lost}

abbrev pub course_of : LoopState → Course
course_of it = record { given = it.desk.admitted; handed = it.handed }

-- nothing was admitted yet
pub record IsOpening (job : Job) (slots : ℕ) (it : LoopState) : Type 0 where
  pub opens : it ≡ opening_loop job slots
  pub sound : IsLoop it

-- the loop is this job's
pub record IsLoopOf (job : Job) (slots : ℕ) (it : LoopState) : Type 0 where
  pub job_is : it.desk.job ≡ job
  pub slots_are : it.desk.slots ≡ slots
  pub sound : IsLoop it

-- it still is the same one's, with the same records
pub record Stays (old new : LoopState) : Type 0 where
  pub job_is : new.desk.job ≡ old.desk.job
  pub slots_are : new.desk.slots ≡ old.desk.slots
  pub records : new.desk.admitted ≡ old.desk.admitted
  pub closed : is_closed new.desk ≡ is_closed old.desk

-- the report of the next record was put so, and the desk is as before
pub record IsShownAt (job : Job) (brief : Bool) (old new : LoopState) (Puts : List ℕ → Type 0) : Type 0 where
  pub shown : IsShown job brief (course_of old) (course_of new) Puts
  pub desk : new.desk ≡ old.desk

-- an event came nearer to its end, and nothing was written
pub record IsWorked {K : Type 0} (old new : LoopState) (sink sink_now : K) : Type 0 where
  pub keeps : KeepsOn old new
  pub less : work_left new < work_left old
  pub same : sink_now ≡ sink

-- one step of the loop, with the report that it gave
abbrev pub StepSays : {K : Type 0} → (K → Option (List ℕ)) → (K → ℕ) → (K → List ℕ → Type 0) → Job → Bool → LoopState →
    LoopState → K → K → Step → Type 0
StepSays got faults admits job brief old new sink sink_now Went =
    IsWorked old new sink sink_now ⊎ IsShownAt job brief old new (IsSent got faults admits sink sink_now)
StepSays got faults admits job brief old new sink sink_now Idle = (new ≡ old) × IsIdleAt old × (sink_now ≡ sink)
StepSays got faults admits job brief old new sink sink_now Over = (new ≡ old) × IsOverAt old × (sink_now ≡ sink)
StepSays got faults admits job brief old new sink sink_now Broken =
    IsShownAt job brief old new (IsBroken got faults sink sink_now)
StepSays got faults admits job brief old new sink sink_now NoMemory = Stays old new × (sink_now ≡ sink)
StepSays got faults admits job brief old new sink sink_now Lost = ⊥

-- the loop ran until every event had ended and its report was written, or which failure broke that off
abbrev pub DrainSays : {K : Type 0} → (K → Option (List ℕ)) → (K → ℕ) → (K → List ℕ → Type 0) → Job → Bool → LoopState →
    LoopState → K → K → Step → Type 0
DrainSays got faults admits job brief old new sink sink_now Went = ⊥
DrainSays got faults admits job brief old new sink sink_now Idle = ⊥
DrainSays got faults admits job brief old new sink sink_now Over =
    Stays old new × IsOverAt new × IsSent got faults admits sink sink_now (reports_left job brief (course_of old))
DrainSays got faults admits job brief old new sink sink_now Broken =
    Stays old new × IsBroken got faults sink sink_now (reports_left job brief (course_of old))
DrainSays got faults admits job brief old new sink sink_now NoMemory =
    Stays old new × AppendsPrefix (got sink) (got sink_now) (reports_left job brief (course_of old))
    × (faults sink_now ≡ faults sink)
DrainSays got faults admits job brief old new sink sink_now Lost = ⊥

-- it still is the same one's, with the same records; nothing further comes
pub record IsFinal (old new : LoopState) : Type 0 where
  pub job_is : new.desk.job ≡ old.desk.job
  pub slots_are : new.desk.slots ≡ old.desk.slots
  pub records : new.desk.admitted ≡ old.desk.admitted

-- the loop ran until every event had ended, or memory ran out; the sink had failed before
abbrev pub RunsOut : LoopState → LoopState → Ending → Type 0
RunsOut old new ending.Sink = IsFinal old new × IsOverAt new
RunsOut old new ending.NoMemory = IsFinal old new
RunsOut old new other = ⊥

-- the last line by how reading stopped
abbrev pub line_for : Job → List EventRecord → Ending → List ℕ
line_for job given ending.All = last_line (results job given) ReadToEnd
line_for job given (ending.Refused refusal) = last_line (results job given) (RefusedAt refusal)
line_for job given ending.Source = last_line (results job given) SourceFailed
line_for job given ending.Sink = []
line_for job given ending.NoMemory = []

-- what is written after reading has stopped so: the reports that are still to come, and the last line
abbrev pub rest_of : Job → Bool → Ending → Course → List ℕ
rest_of job brief ended at = reports_left job brief at ++ line_for job at.given ended

-- the sink failed before, or while the rest was written
abbrev pub BrokenBy : {K : Type 0} → (K → Option (List ℕ)) → (K → ℕ) → Job → Bool → Course → K → K → Ending → Type 0
BrokenBy got faults job brief at sink sink_now ending.Sink = sink_now ≡ sink
BrokenBy got faults job brief at sink sink_now ending.NoMemory = ⊥
BrokenBy got faults job brief at sink sink_now ended =
    IsBroken got faults sink sink_now (rest_of job brief ended at)

-- memory ran out before, or while the rest was written
abbrev pub LeftBy : {K : Type 0} → (K → Option (List ℕ)) → (K → ℕ) → Job → Bool → Course → K → K → Ending → Type 0
LeftBy got faults job brief at sink sink_now ending.Sink = sink_now ≡ sink
LeftBy got faults job brief at sink sink_now ending.NoMemory = sink_now ≡ sink
LeftBy got faults job brief at sink sink_now ended =
    AppendsPrefix (got sink) (got sink_now) (rest_of job brief ended at)
    × ((faults sink_now ≡ faults sink) ⊎ Rose (faults sink) (faults sink_now))

-- a run whose reading stopped so was brought to its end
abbrev pub FinishSays : {K : Type 0} → (K → Option (List ℕ)) → (K → ℕ) → (K → List ℕ → Type 0) → Job → Bool → Ending →
    LoopState → LoopState → K → K → Ending → Type 0
FinishSays got faults admits job brief ended old new sink sink_now ending.Sink =
    IsFinal old new × IsOverAt new × BrokenBy got faults job brief (course_of old) sink sink_now ended
FinishSays got faults admits job brief ended old new sink sink_now ending.NoMemory =
    IsFinal old new × LeftBy got faults job brief (course_of old) sink sink_now ended
FinishSays got faults admits job brief ended old new sink sink_now result =
    (result ≡ ended) × IsFinal old new × IsOverAt new
    × IsSent got faults admits sink sink_now (rest_of job brief ended (course_of old))

-- how much is left to do, at most: to read, and of what was admitted
abbrev pub left_to_do : Input → LoopState → ℕ
left_to_do input it =
    unread it.desk.admitted input * (length it.desk.job.algorithms + 3)
    + ((length it.desk.admitted - it.handed) + work_left it)

-- the loop was brought to its end, and this was told of it
pub record IsTold {K : Type 0} (got : K → Option (List ℕ)) (faults : K → ℕ) (admits : K → List ℕ → Type 0) (job : Job)
    (brief : Bool) (ended : Ending) (old : LoopState) (sink sink_now : K) (result_ : Ending) (counts : Counts)
    (journal : List Entry) : Type 0 where
  pub new : LoopState
  pub sound : IsLoop new
  pub says : FinishSays got faults admits job brief ended old new sink sink_now result_
  pub counts_are : counts ≡ new.counts
  pub journal_is : journal ≡ new.desk.journal
