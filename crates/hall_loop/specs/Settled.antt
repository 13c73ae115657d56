-- What is left when the workers have returned and the hall was closed.
use Rattle.std.specs.Prelude.{◌≡◌, ◌+◌, ◌<◌, Bool, true, List, ◌++◌, All, length, Result, Ok, Err, IsSomeAnd}
use Rattle.std.specs.declared.alloc.AllocError.{AllocError}
use Rattle.event_loop.specs.Loop.{LoopState, results_of}
use Rattle.event_slots.specs.Slots.{claims_out}
use Rattle.expr_code.specs.Claim.{Done}
use Rattle.hall_loop.specs.Beside.{given_of}
use Rattle.hall_loop.specs.Others.{HasOnlyWorked}
use Rattle.hall_loop.specs.declared.hall_loop.HallLoop.{HallLoop}
use Rattle.hive_hall.specs.Closing.{IsConserved, IsLast}
use Rattle.hive_hall.specs.Pass.{job_of, passes_of, slots_of}
use Rattle.hive_hall.specs.declared.hall.Hall.{Hall}
use Rattle.hive_hall.specs.declared.pass.Pass.{Pass}
use Rattle.hive_model.specs.History.{DeskState}
use Rattle.hive_model.specs.Many.{Many}
use Rattle.hive_model.specs.Replay.{IsWholeRun, replay}
use Rattle.hive_model.specs.declared.entry.Entry.{Entry}
use Rattle.hive_workers.specs.Items.{is_back, is_done}
use Rattle.report_text.specs.Tallied.{CountsAll}
use Rattle.report_text.specs.declared.counts.Counts.{Counts}
use Rattle.scheduler_core.specs.Says.{IsNotOut}
use Rattle.scheduler_core.specs.State.{InState}

-- these are all passes of the hall but one, whose participants have only worked, and there is room for that one
pub record AreWorkersOf (hall : Hall) (workers : Many Pass) : Type 0 where
  pub all : length workers.items + 1 ≡ passes_of hall
  pub worked : All (HasOnlyWorked hall) workers.items
  pub room : 0 < workers.spare

-- entries of this kind were entered, and nothing else
pub record Enters (kind : Entry → Bool) (d after : DeskState) : Type 0 where
  pub entries : List Entry
  pub only : All (λ e. kind e ≡ true) entries
  pub appended : after ≡ record d { journal = d.journal ++ entries }

-- Results were entered, and nothing else, and of none of these is the claim outstanding any more.
pub record BooksAll (d : DeskState) (left : List Done) (after : DeskState) : Type 0 where
  pub results : Enters is_done d after
  pub none_out : All (λ v. InState after (IsNotOut v.claim)) left

-- Claims were put back, and nothing else; nothing is outstanding any more, unless memory ran out.
abbrev pub RecallsAll : DeskState → Result (Unit {0}) AllocError → DeskState → Type 0
RecallsAll d (Ok it) after = Enters is_back d after × InState after (λ m. claims_out m.slots ≡ 0)
RecallsAll d (Err e) after = Enters is_back d after

-- The results that were left when the hall of these passes was closed are booked, and what was outstanding then is put
-- back. So no result that a worker gave is lost, or performed again.
pub record BooksLeft (hall : Hall) (passes : List Pass) (journal : List Entry) : Type 0 where
  pub closed : DeskState
  pub last : IsLast hall passes closed
  pub left : List Done
  pub conserved : IsConserved hall passes left
  pub booked : DeskState
  pub books : BooksAll closed left booked
  pub recalled : List Entry
  pub backs : All (λ e. is_back e ≡ true) recalled
  pub journal_is : journal ≡ booked.journal ++ recalled

-- the loop goes on with what the hall's one admitted and handed out
pub record IsSettled (hall : Hall) (it : HallLoop) (now : LoopState) : Type 0 where
  pub job_is : now.desk.job ≡ job_of hall
  pub slots_are : now.desk.slots ≡ slots_of hall
  pub records : now.desk.admitted ≡ given_of it
  pub handed : now.handed ≡ it.handed

-- a run over what was admitted, and the counts of the events that have ended in it
pub record IsUnsettled (hall : Hall) (it : HallLoop) (counts : Counts) (journal : List Entry) : Type 0 where
  pub run : IsWholeRun (job_of hall) (slots_of hall) (given_of it) journal
  pub counted : IsSomeAnd (replay (job_of hall) (slots_of hall) (given_of it) journal)
      (λ m. CountsAll (results_of m.finished) counts)
