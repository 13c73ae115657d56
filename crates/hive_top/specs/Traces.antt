-- What is written to the trace: the text of the journal, where it is asked for and a job was run.
use Rattle.std.specs.Prelude.{◌≡◌, ◌⊎◌, ℕ, true, List, Option, Some, Ok, IfSome}
use Rattle.std.specs.Io.KnownBytes.{Appends}
use Rattle.hive_edge.specs.Fault.{Rose}
use Rattle.hive_edge.specs.Shelf.{Files}
use Rattle.hive_model.specs.EventRecord.{EventRecord}
use Rattle.hive_model.specs.Job.{Job}
use Rattle.hive_model.specs.Replay.{IsCompleteRun}
use Rattle.hive_model.specs.declared.entry.Entry.{Entry}
use Rattle.hive_pump.specs.Reading.{IsRead}
use Rattle.hive_pump.specs.Written.{AppendsPrefix}
use Rattle.text_model.specs.Timeline.{timeline}
use Rattle.text_model.specs.Whole.{Ending as Last}
use Rattle.hive_top.specs.Answer.{named_job}
use Rattle.hive_top.specs.Status.{IsWhole}
use Rattle.hive_top.specs.Words.{command_of, file_of}
use Rattle.hive_top.specs.declared.commands.Command.TheVariants.{OnFile}
use Rattle.hive_top.specs.declared.commands.How.{How}
use Rattle.hive_top.specs.declared.commands.Verb.TheVariants.{Run}
use Rattle.hive_top.specs.declared.status.Status.{Status}
use Rattle.hive_top.specs.declared.status.Status.TheVariants as status

-- a journal that may come to be written to the trace
pub record MayTrace (words : List (List ℕ)) (files : Option Files) (rest : Option (List ℕ)) (journal : List Entry) : Type 0 where
  pub how : How
  pub run : command_of words ≡ Some (OnFile (Run how))
  pub wanted : how.timeline ≡ true
  pub job : Job
  pub told : IfSome (named_job (file_of words) files) (λ it. it ≡ Ok job)
  pub now : Option (List ℕ)
  pub given : List EventRecord
  pub last : Last
  pub read : IsRead job rest now given (Some last)
  pub complete : IsCompleteRun job how.concurrency.slots given journal

-- the text of the journal was written, or a prefix of it where the call was broken off
abbrev pub IsTraced : Status → Option (List ℕ) → Option (List ℕ) → List Entry → Type 0
IsTraced status.Output got got_now journal = AppendsPrefix got got_now (timeline journal)
IsTraced status.NoMemory got got_now journal = AppendsPrefix got got_now (timeline journal)
IsTraced other got got_now journal = Appends got got_now (timeline journal)

-- How a call that would end so ends after its journal was written, or was not asked for: as before, or broken off.
abbrev pub Follows : Status → Status → ℕ → ℕ → Type 0
Follows before after trace trace_now =
    (after ≡ before) × (trace_now ≡ trace) ⊎ IsWhole before × (after ≡ status.Output) × Rose trace trace_now
    ⊎ IsWhole before × (after ≡ status.NoMemory) × (trace_now ≡ trace)
