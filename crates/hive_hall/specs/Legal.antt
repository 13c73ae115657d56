-- A history is legal where a scheduler core tells it: it opens with the core's job and slots, the journal of its
-- items is a run of these over the records of its items, and at most one Stop stands among them.
use Rattle.std.specs.Prelude.{◌≡◌, ℕ, List, Option, Some, None}
use Rattle.hive_model.specs.History.{DeskState, Tells, journal_of, records_of}
use Rattle.hive_model.specs.Job.{Job}
use Rattle.hive_model.specs.declared.item.Item.{Item}
use Rattle.scheduler_core.specs.State.{IsDesk}

-- the history of a scheduler core of this job and so many slots. There is only one such core.
pub record IsHistoryOf (of : Job) (count : ℕ) (items : List Item) (d : DeskState) : Type 0 where
  pub job : d.job ≡ of
  pub slots : d.slots ≡ count
  pub journal : d.journal ≡ journal_of items
  pub records : d.admitted ≡ records_of items
  pub tells : Tells items d
  -- the journal is a run that admits all these records
  pub desk : IsDesk d

-- how many Stops stand in a history
abbrev pub stops_in : Option ℕ → ℕ
stops_in None = 0
stops_in (Some n) = 1
