-- What performing one algorithm comes to.
use Rattle.std.specs.Prelude.{◌≡◌, ℕ, ◌+◌, true, false}
use Rattle.hive_model.specs.History.{DeskState}
use Rattle.hive_model.specs.Machine.{Machine}
use Rattle.hive_model.specs.declared.entry.Entry.TheVariants as entry
use Rattle.hive_model.specs.declared.outcome.Outcome.{Outcome}
use Rattle.expr_code.specs.Claim.{Claim as Work}
use Rattle.scheduler_core.specs.Says.{IsOver, is_empty, with_entry}
use Rattle.scheduler_core.specs.State.{InState, IsDesk}
use Rattle.event_loop.specs.Loop.{work_in}
use Rattle.event_loop.specs.Running.{DeskKeeps, IsQuiet}
use Rattle.event_loop.specs.declared.turn.Turn.{Turn}
use Rattle.event_loop.specs.declared.turn.Turn.TheVariants.{Result as Came, Went, Idle, Over, NoMemory}

-- the claim was booked with some outcome
pub record IsBooked (d : DeskState) (v : Work) (after : DeskState) : Type 0 where
  pub outcome : Outcome
  pub appended : after ≡ with_entry d (entry.Done v.ticket outcome)

-- a claim's entry was followed by its Done or its Back, so nothing is outstanding, and so much less is to do
pub record RanOn (d : DeskState) (less : ℕ) (after : DeskState) : Type 0 where
  pub keeps : DeskKeeps d after
  pub desk : IsDesk after
  pub old : Machine
  pub was : IsQuiet d old
  pub new : Machine
  pub now : IsQuiet after new
  pub finished : new.finished ≡ old.finished
  pub work : work_in new + less ≡ work_in old

-- nothing is in flight, and it wasn't said that no further event comes
pub record IsAtRest (m : Machine) : Type 0 where
  pub empty : is_empty m ≡ true
  pub on : m.closed ≡ false

abbrev pub RunSays : DeskState → Turn → DeskState → Type 0
RunSays d (Came r) after = ⊥
RunSays d Went after = RanOn d 1 after
RunSays d Idle after = (after ≡ d) × InState d IsAtRest
RunSays d Over after = (after ≡ d) × InState d IsOver
RunSays d NoMemory after = RanOn d 0 after
