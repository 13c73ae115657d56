-- A run beside workers. What is true of its loop is said by the crate of that loop; here stands how the run's course goes on,
-- step by step, and how it stops.
use Rattle.std.specs.Prelude.{◌≡◌, ◌⊎◌, ℕ, ◌+◌, ◌<◌, ◌≤◌, Bool, List, [], Option}
use Rattle.hall_loop.specs.Beside.{FindsNothing, HasNoWork, IsBeside, IsLost, deeds, given_of}
use Rattle.hall_loop.specs.declared.hall_loop.HallLoop.{HallLoop}
use Rattle.hive_hall.specs.Pass.{job_of, seen}
use Rattle.hive_hall.specs.declared.hall.Hall.{Hall}
use Rattle.hive_model.specs.Job.{Job}
use Rattle.text_model.specs.Whole.{Ending as Last}
use Rattle.hive_pump.specs.Course.{Course, HasStopped, IsShown, WrittenBy}
use Rattle.hive_pump.specs.Input.{IsUnread}
use Rattle.hive_pump.specs.Pumped.{EndsBy}
use Rattle.hive_pump.specs.Steps.{IsBroken, IsSent}
use Rattle.hive_pump.specs.declared.beside.Parted.{Parted}
use Rattle.hive_pump.specs.declared.beside.Parted.TheVariants as parted
use Rattle.hive_pump.specs.declared.ending.Ending.{Ending}
use Rattle.hive_pump.specs.declared.ending.Ending.TheVariants as ending
use Rattle.hive_pump.specs.declared.input.Input.{Input}
use Rattle.hive_pump.specs.declared.step.Step.{Step}
use Rattle.hive_pump.specs.declared.step.Step.TheVariants.{Went, Idle, Over, Broken, NoMemory, Lost}

abbrev pub course_beside : HallLoop → Course
course_beside it = record { given = given_of it; handed = it.handed }

-- nothing was read and nothing admitted yet
pub record IsOpeningBeside (job : Job) (hall : Hall) (input : Input) (events : HallLoop) : Type 0 where
  pub unread : IsUnread job input
  pub job_is : job_of hall ≡ job
  pub beside : IsBeside hall events
  pub none : course_beside events ≡ record { given = []; handed = 0 }

-- nothing came in and nothing went out, to the sink neither
abbrev pub RestsBeside : {K : Type 0} → HallLoop → HallLoop → K → K → Type 0
RestsBeside old new sink sink_now = (course_beside new ≡ course_beside old) × (sink_now ≡ sink)

-- one step of the loop, with the report that it gave
abbrev pub StepBesideSays : {K : Type 0} → (K → Option (List ℕ)) → (K → ℕ) → (K → List ℕ → Type 0) → Hall → Job → Bool →
    HallLoop → HallLoop → K → K → Step → Type 0
StepBesideSays got faults admits hall job brief old new sink sink_now Went =
    RestsBeside old new sink sink_now
    ⊎ IsShown job brief (course_beside old) (course_beside new) (IsSent got faults admits sink sink_now)
StepBesideSays got faults admits hall job brief old new sink sink_now Idle = RestsBeside old new sink sink_now
StepBesideSays got faults admits hall job brief old new sink sink_now Over = RestsBeside old new sink sink_now
StepBesideSays got faults admits hall job brief old new sink sink_now Broken =
    IsShown job brief (course_beside old) (course_beside new) (IsBroken got faults sink sink_now)
StepBesideSays got faults admits hall job brief old new sink sink_now NoMemory =
    (given_of new ≡ given_of old) × (sink_now ≡ sink)
StepBesideSays got faults admits hall job brief old new sink sink_now Lost = IsLost hall new

-- what was seen of why a step came to this: nothing may be claimed now, or nothing will be any more
abbrev pub HasCauseBeside : Hall → HallLoop → Step → Type 0
HasCauseBeside hall new Went = Unit {0}
HasCauseBeside hall new Idle = FindsNothing hall (seen new.pass)
HasCauseBeside hall new Over = HasNoWork hall (seen new.pass)
HasCauseBeside hall new Broken = Unit {0}
HasCauseBeside hall new NoMemory = Unit {0}
HasCauseBeside hall new Lost = Unit {0}

-- a step that went on handed a report out, or did something for the events
abbrev pub HasDoneBeside : Step → HallLoop → HallLoop → Type 0
HasDoneBeside Went old new = (old.handed < new.handed) ⊎ (1 + deeds old.pass ≤ deeds new.pass)
HasDoneBeside Idle old new = Unit {0}
HasDoneBeside Over old new = Unit {0}
HasDoneBeside Broken old new = Unit {0}
HasDoneBeside NoMemory old new = Unit {0}
HasDoneBeside Lost old new = Unit {0}

-- the run went on until nothing will be claimed any more, unless memory ran out or the loop lost track
abbrev pub HasRunOut : Hall → HallLoop → Parted → Type 0
HasRunOut hall new (parted.By ending.NoMemory) = Unit {0}
HasRunOut hall new (parted.By other) = HasNoWork hall (seen new.pass)
HasRunOut hall new parted.Lost = Unit {0}

-- Steps were made after reading had stopped. Whatever was written before, by now it is this.
pub record GoesOnTo {K : Type 0} (got : K → Option (List ℕ)) (faults : K → ℕ) (admits : K → List ℕ → Type 0) (job : Job)
    (brief : Bool) (old new : Course) (sink sink_now : K) (ended now : Ending) : Type 0 where
  pub given : new.given ≡ old.given
  pub ends : (last : Option Last) → EndsBy ended last → EndsBy now last
  pub bytes : (first : K) → WrittenBy got faults admits job brief old first sink ended →
      WrittenBy got faults admits job brief new first sink_now now

-- the reports were written on until nothing more is claimed, or which failure broke that off
abbrev pub DrainBesideSays : {K : Type 0} → (K → Option (List ℕ)) → (K → ℕ) → (K → List ℕ → Type 0) → Hall → Job → Bool →
    Ending → HallLoop → HallLoop → K → K → Step → Type 0
DrainBesideSays got faults admits hall job brief ended old new sink sink_now Went = ⊥
DrainBesideSays got faults admits hall job brief ended old new sink sink_now Idle = ⊥
DrainBesideSays got faults admits hall job brief ended old new sink sink_now Over =
    GoesOnTo got faults admits job brief (course_beside old) (course_beside new) sink sink_now ended ended
DrainBesideSays got faults admits hall job brief ended old new sink sink_now Broken =
    GoesOnTo got faults admits job brief (course_beside old) (course_beside new) sink sink_now ended ending.Sink
DrainBesideSays got faults admits hall job brief ended old new sink sink_now NoMemory =
    GoesOnTo got faults admits job brief (course_beside old) (course_beside new) sink sink_now ended ending.NoMemory
DrainBesideSays got faults admits hall job brief ended old new sink sink_now Lost = IsLost hall new

-- the loop ran until nothing more is claimed, and nothing was written; the sink had failed before
abbrev pub RunsOutBeside : Hall → HallLoop → HallLoop → Parted → Type 0
RunsOutBeside hall old new (parted.By ending.Sink) = given_of new ≡ given_of old
RunsOutBeside hall old new (parted.By ending.NoMemory) = given_of new ≡ given_of old
RunsOutBeside hall old new (parted.By other) = ⊥
RunsOutBeside hall old new parted.Lost = IsLost hall new

-- the run stopped so, after reading had stopped
abbrev pub PartsFrom : {K : Type 0} → (K → Option (List ℕ)) → (K → ℕ) → (K → List ℕ → Type 0) → Hall → Job → Bool →
    Ending → HallLoop → HallLoop → K → K → Parted → Type 0
PartsFrom got faults admits hall job brief ended old new sink sink_now (parted.By now) =
    GoesOnTo got faults admits job brief (course_beside old) (course_beside new) sink sink_now ended now
PartsFrom got faults admits hall job brief ended old new sink sink_now parted.Lost = IsLost hall new

-- reading stopped so
abbrev pub Parts : {S K : Type 0} → (S → Option (List ℕ)) → (S → ℕ) → (K → Option (List ℕ)) → (K → ℕ) →
    (K → List ℕ → Type 0) → Hall → Job → Bool → S → S → K → K → HallLoop → Parted → Type 0
Parts rest source_faults got sink_faults admits hall job brief source source_now sink sink_now events (parted.By ended) =
    HasStopped rest source_faults got sink_faults admits job brief source source_now sink sink_now (course_beside events)
    ended
Parts rest source_faults got sink_faults admits hall job brief source source_now sink sink_now events parted.Lost =
    IsLost hall events
