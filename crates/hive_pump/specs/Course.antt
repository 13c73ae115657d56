-- The course of a run, whoever performs: the records that were admitted, how many of their results were handed out, what
-- was read to get there, and what was written.
use Rattle.std.specs.Prelude.{◌≡◌, ◌⊎◌, ℕ, ◌+◌, Bool, List, [], ◌∷◌, ◌++◌, drop, take, Option, Some, None, slice_get}
use Rattle.hive_edge.specs.Fault.{Rose}
use Rattle.hive_model.specs.EventRecord.{EventRecord}
use Rattle.hive_model.specs.Job.{Job}
use Rattle.text_model.specs.Whole.{reports}
use Rattle.hive_pump.specs.Input.{HasEnded, IsInput}
use Rattle.hive_pump.specs.Steps.{IsBroken, IsSent, report_on}
use Rattle.hive_pump.specs.Written.{AppendsPrefix, results, written}
use Rattle.hive_pump.specs.declared.ending.Ending.{Ending}
use Rattle.hive_pump.specs.declared.ending.Ending.TheVariants as ending
use Rattle.hive_pump.specs.declared.input.Input.{Input}
use Rattle.hive_pump.specs.declared.step.Step.{Step}
use Rattle.hive_pump.specs.declared.step.Step.TheVariants.{Went, Idle, Over, Broken, NoMemory, Lost}

pub record Course : Type 0 where
  pub given : List EventRecord
  pub handed : ℕ

-- with one more record
abbrev pub with_record : Course → EventRecord → Course
with_record at event = record at { given = at.given ++ event ∷ [] }

-- with one more result handed out
abbrev pub moved_on : Course → Course
moved_on at = record at { handed = at.handed + 1 }

-- the reports of the records from a number on
abbrev pub reports_from : Job → Bool → ℕ → List EventRecord → List ℕ
reports_from job brief n given = reports job brief (results job (drop n given))

-- the reports that were due so far, and those that are still to come
abbrev pub text_so_far : Job → Bool → Course → List ℕ
text_so_far job brief at = written job brief (take at.handed at.given) None

abbrev pub reports_left : Job → Bool → Course → List ℕ
reports_left job brief at = reports_from job brief at.handed at.given

-- the report of the next record was put so
pub record IsShown (job : Job) (brief : Bool) (old new : Course) (Puts : List ℕ → Type 0) : Type 0 where
  pub event : EventRecord
  pub there : slice_get old.given old.handed ≡ Some event
  pub moved : new ≡ moved_on old
  pub puts : Puts (report_on job brief event)

-- a text was written as a step, or which failure broke that off
abbrev pub PutsAs : {K : Type 0} → (K → Option (List ℕ)) → (K → ℕ) → (K → List ℕ → Type 0) → List ℕ → K → K → Step → Type 0
PutsAs got faults admits text sink sink_now Went = IsSent got faults admits sink sink_now text
PutsAs got faults admits text sink sink_now Broken = IsBroken got faults sink sink_now text
PutsAs got faults admits text sink sink_now NoMemory = sink_now ≡ sink
PutsAs got faults admits text sink sink_now Idle = ⊥
PutsAs got faults admits text sink sink_now Over = ⊥
PutsAs got faults admits text sink sink_now Lost = ⊥

-- A run between two steps.
pub record IsUnderWay {S K : Type 0} (rest : S → Option (List ℕ)) (source_faults : S → ℕ) (got : K → Option (List ℕ))
    (sink_faults : K → ℕ) (admits : K → List ℕ → Type 0) (job : Job) (brief : Bool) (source source_now : S)
    (sink sink_now : K) (input : Input) (at : Course) : Type 0 where
  pub read : IsInput rest source_faults job source source_now at.given input
  pub sent : IsSent got sink_faults admits sink sink_now (text_so_far job brief at)

-- what was written by the time at which reading stopped so
abbrev pub WrittenBy : {K : Type 0} → (K → Option (List ℕ)) → (K → ℕ) → (K → List ℕ → Type 0) → Job → Bool → Course →
    K → K → Ending → Type 0
WrittenBy got faults admits job brief at sink sink_now ending.Sink =
    IsBroken got faults sink sink_now (written job brief at.given None)
WrittenBy got faults admits job brief at sink sink_now ending.NoMemory =
    AppendsPrefix (got sink) (got sink_now) (written job brief at.given None)
    × ((faults sink_now ≡ faults sink) ⊎ Rose (faults sink) (faults sink_now))
WrittenBy got faults admits job brief at sink sink_now other =
    IsSent got faults admits sink sink_now (text_so_far job brief at)

-- Reading has stopped.
pub record HasStopped {S K : Type 0} (rest : S → Option (List ℕ)) (source_faults : S → ℕ) (got : K → Option (List ℕ))
    (sink_faults : K → ℕ) (admits : K → List ℕ → Type 0) (job : Job) (brief : Bool) (source source_now : S)
    (sink sink_now : K) (at : Course) (ended : Ending) : Type 0 where
  pub input : HasEnded rest source_faults job source source_now at.given ended
  pub bytes : WrittenBy got sink_faults admits job brief at sink sink_now ended
