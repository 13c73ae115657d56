-- What a call came to before its journal is written: for some truth about the files and the source, which their counts bear out,
-- an answer is due, and it was written, or a prefix of it.
use Rattle.std.specs.Prelude.{◌≡◌, ◌⊎◌, ℕ, Bool, true, false, List, Option, Result, Ok, Err, IfSome, IsOk, Some}
use Rattle.std.specs.Io.KnownBytes.{Appends}
use Rattle.hive_edge.specs.Fault.{Calm, Rose}
use Rattle.hive_edge.specs.Shelf.{Files}
use Rattle.hive_model.specs.Job.{Job}
use Rattle.hive_pump.specs.Written.{AppendsPrefix}
use Rattle.hive_top.specs.Answer.{Answer, IsDue, named_job}
use Rattle.hive_top.specs.Words.{command_of, file_of}
use Rattle.hive_top.specs.declared.commands.Command.TheVariants.{OnFile}
use Rattle.hive_top.specs.declared.commands.How.{How}
use Rattle.hive_top.specs.declared.commands.Verb.TheVariants.{Run}
use Rattle.hive_top.specs.declared.status.Status.{Status}
use Rattle.hive_top.specs.declared.status.Status.TheVariants as status
use Rattle.hive_top.specs.declared.stop.Stop.{Stop}
use Rattle.hive_top.specs.declared.stop.Stop.TheVariants as stop

-- a failure with a risen count, or none with the count as before
abbrev pub BearsOut : Bool → ℕ → ℕ → Type 0
BearsOut true before now = Rose before now
BearsOut false before now = now ≡ before

-- The text of an answer was written with its status. A prefix of it was, where the sink failed or memory ran out.
abbrev pub Wrote : Status → Option (List ℕ) → Option (List ℕ) → ℕ → ℕ → Answer → Type 0
Wrote status.Output got got_now sink sink_now a = AppendsPrefix got got_now a.text × Rose sink sink_now
Wrote status.NoMemory got got_now sink sink_now a =
    AppendsPrefix got got_now a.text × ((sink_now ≡ sink) ⊎ Rose sink sink_now)
Wrote other got got_now sink sink_now a = Appends got got_now a.text × (other ≡ a.status) × (sink_now ≡ sink)

pub record Called (words : List (List ℕ)) (files : Option Files) (rest now got got_now : Option (List ℕ)) (shelf_before shelf_now source_before source_now sink_before sink_now : ℕ) (ended : Status) : Type 0 where
  pub shelf : Bool
  pub source : Bool
  pub shelf_count : BearsOut shelf shelf_before shelf_now
  pub source_count : BearsOut source source_before source_now
  pub answer : Answer
  pub due : IsDue words files rest now shelf source answer
  pub wrote : Wrote ended got got_now sink_before sink_now answer
  pub input : ended ≡ status.Input → (shelf ≡ true) ⊎ (source ≡ true)

-- The job that is read is the one told, or what stops the call is. That the files failed is told by their count alone.
abbrev pub ReadsJob : Option (Result Job Stop) → Result Job Stop → Type 0
ReadsJob told (Err stop.Shelf) = Unit {0}
ReadsJob told (Err stop.NoMemory) = Unit {0}
ReadsJob told read = IfSome told (λ it. read ≡ it)

-- only a stop at the files has a risen count
abbrev pub CountsShelf : Result Job Stop → ℕ → ℕ → Type 0
CountsShelf (Err stop.Shelf) before now = Rose before now
CountsShelf read before now = now ≡ before

-- The source is called only for `run`, after FILE was fetched and, where FILE is told, read to a job.
pub record MayRead (words : List (List ℕ)) (files : Option Files) (shelf_before shelf_now : ℕ) : Type 0 where
  pub how : How
  pub run : command_of words ≡ Some (OnFile (Run how))
  pub fetched : shelf_now ≡ shelf_before
  pub read : IfSome (named_job (file_of words) files) (λ it. IsOk it)

-- what reading a text can come to: a job, options that are refused, or memory that ran out
abbrev pub IsOfText : Result Job Stop → Type 0
IsOfText (Ok job) = Unit {0}
IsOfText (Err (stop.Options refusal)) = Unit {0}
IsOfText (Err stop.NoMemory) = Unit {0}
IsOfText (Err other) = ⊥

-- the answer that is due was written, with its status where the trace didn't fail
pub record IsAnswered (words : List (List ℕ)) (files : Option Files) (rest now : Option (List ℕ)) (shelf source : Bool)
    (got got_now : Option (List ℕ)) (trace trace_now : ℕ) (ended : Status) : Type 0 where
  pub answer : Answer
  pub due : IsDue words files rest now shelf source answer
  pub bytes : Appends got got_now answer.text
  pub status_is : Calm trace trace_now → ended ≡ answer.status

-- a prefix of the answer that is due was written
pub record IsBrokenOff (words : List (List ℕ)) (files : Option Files) (rest now : Option (List ℕ)) (shelf source : Bool) (got got_now : Option (List ℕ)) : Type 0 where
  pub answer : Answer
  pub due : IsDue words files rest now shelf source answer
  pub bytes : AppendsPrefix got got_now answer.text
