-- What is true of an event in a slot, whatever has come. Its results are made of additions, its store is
-- theirs, and each claim
-- that is outstanding is one of an algorithm that can run, over its inputs in that store.
use Rattle.std.specs.Prelude.{◌≡◌, ℕ, ◌-◌, ◌<◌, ◌≤◌, true, List, length, Some, slice_get}
use Rattle.std.specs.List.{AllByRecursion}
use Rattle.event_laws.specs.Additions.{AreMadeOfAdditions}
use Rattle.event_laws.specs.Rest.{NothingIsEnabled}
use Rattle.hive_model.specs.Agreement.{AreWithin}
use Rattle.hive_model.specs.Algorithm.{Algorithm}
use Rattle.hive_model.specs.Closure.{closure}
use Rattle.hive_model.specs.Enabled.{can_run, inputs_in}
use Rattle.hive_model.specs.Event.{result_of}
use Rattle.hive_model.specs.EventRecord.{EventRecord}
use Rattle.hive_model.specs.Job.{Job}
use Rattle.hive_model.specs.Lending.{IsExclusive}
use Rattle.hive_model.specs.Machine.{Busy, Finished, Machine, Outstanding, claim_at}
use Rattle.hive_model.specs.Results.{Results, store}
use Rattle.hive_model.specs.Step.{busy_at}

-- the algorithm of that number is claimed with these inputs
pub record IsClaimOf (job : Job) (event : EventRecord) (ran : Results) (number : ℕ)
    (claim : Outstanding) : Type 0 where
  pub algorithm : Algorithm
  pub there : slice_get job.algorithms number ≡ Some algorithm
  pub runs : can_run job event ran number ≡ true
  pub inputs : claim.inputs ≡ inputs_in (store job event ran) algorithm.inputs

pub record IsSoundFor (job : Job) (event : EventRecord) (b : Busy) : Type 0 where
  pub made : AreMadeOfAdditions job event b.ran
  pub store_is : b.store ≡ store job event b.ran
  pub claims : (number : ℕ) (claim : Outstanding) → claim_at b number ≡ Some claim →
      IsClaimOf job event b.ran number claim
  pub as_many : length b.claims ≡ length job.algorithms

-- the event is that of the record at its place, counted from 1, and that record was admitted
pub record IsSoundBusy (job : Job) (records : List EventRecord) (admitted : ℕ) (b : Busy) : Type 0 where
  pub event : EventRecord
  pub some : 0 < b.place
  pub known : b.place ≤ admitted
  pub there : slice_get records (b.place - 1) ≡ Some event
  pub sound : IsSoundFor job event b

-- every event in a slot
abbrev pub AreSound : Job → List EventRecord → Machine → Type 0
AreSound job records m = (slot : ℕ) (b : Busy) → busy_at m slot ≡ Some b →
    IsSoundBusy job records m.admitted b

-- An event that ended is at its place, and its result is that of results within the closure in which nothing
-- is enabled.
pub record IsSoundEnd (job : Job) (records : List EventRecord) (admitted : ℕ) (f : Finished) : Type 0 where
  pub event : EventRecord
  pub some : 0 < f.place
  pub known : f.place ≤ admitted
  pub there : slice_get records (f.place - 1) ≡ Some event
  pub ran : Results
  pub within : AreWithin ran (closure job event)
  pub rests : NothingIsEnabled job event ran
  pub told : f.result ≡ result_of job event ran

pub record IsSound (job : Job) (records : List EventRecord) (m : Machine) : Type 0 where
  pub busy : AreSound job records m
  pub ended : AllByRecursion (IsSoundEnd job records m.admitted) m.finished
  pub exclusive : IsExclusive job m
