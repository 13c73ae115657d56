-- The journal that a call hands out. It is empty where no job was run. Else it is a run of the job over the records that were read:
-- a complete one, but where memory ran out, and what was written is the text due for just these records, or a prefix of it.
use Rattle.std.specs.Prelude.{◌≡◌, ◌≢◌, ℕ, Bool, true, false, List, [], MatchOption, Option, Some, Result, Ok, Err, IfSome, IsSome}
use Rattle.hive_edge.specs.Fault.{Calm}
use Rattle.hive_edge.specs.Shelf.{Files}
use Rattle.hive_gen.specs.EventTexts.{records_text}
use Rattle.hive_gen.specs.OptionsText.{options_text}
use Rattle.hive_model.specs.EventRecord.{EventRecord}
use Rattle.hive_model.specs.Job.{Job}
use Rattle.hive_model.specs.declared.entry.Entry.{Entry}
use Rattle.hive_pump.specs.Reading.{IsRead}
use Rattle.hive_pump.specs.Written.{AppendsPrefix, written}
use Rattle.text_model.specs.Whole.{Ending as Last}
use Rattle.hive_top.specs.Answer.{file_job, named_job}
use Rattle.hive_top.specs.Called.{BearsOut}
use Rattle.hive_top.specs.RunsTo.{JournalBy}
use Rattle.hive_top.specs.Status.{IsWhole}
use Rattle.hive_top.specs.Words.{command_of, file_of}
use Rattle.hive_top.specs.declared.commands.Command.{Command}
use Rattle.hive_top.specs.declared.commands.Command.TheVariants.{OnFile, Generate, Bulk}
use Rattle.hive_top.specs.declared.commands.Input.{Input}
use Rattle.hive_top.specs.declared.commands.Verb.{Verb}
use Rattle.hive_top.specs.declared.commands.Verb.TheVariants.{Run, Check}
use Rattle.hive_top.specs.declared.status.Status.{Status}
use Rattle.hive_top.specs.declared.status.Status.TheVariants as status
use Rattle.hive_top.specs.declared.stop.Stop.{Stop}

-- what was written, and how the call ended
pub record Output : Type 0 where
  pub got : Option (List ℕ)
  pub got_now : Option (List ℕ)
  pub count : ℕ
  pub count_now : ℕ
  pub ended : Status

-- the journal of a job that was run
pub record HasRun (job : Job) (slots : ℕ) (brief : Bool) (rest now : Option (List ℕ)) (out : Output)
    (journal : List Entry) : Type 0 where
  -- the records that were admitted
  pub given : List EventRecord
  pub last : Option Last
  pub read : IsRead job rest now given last
  -- all that the input says is known where nothing broke the call off, and where only the trace failed
  pub ends : IsWhole out.ended → IsSome last
  pub ends_calm : out.ended ≢ status.NoMemory → Calm out.count out.count_now → IsSome last
  pub bytes : AppendsPrefix out.got out.got_now (written job brief given last)
  pub run : JournalBy out.ended job slots given journal

-- by what the options were read to
abbrev pub JournalOfRead :
    ℕ → Bool → Option (List ℕ) → Option (List ℕ) → Output → List Entry → Result Job Stop → Type 0
JournalOfRead slots brief rest now out journal (Ok job) = HasRun job slots brief rest now out journal
JournalOfRead slots brief rest now out journal (Err it) = journal ≡ []

pub record JournalOfFile (slots : ℕ) (brief : Bool) (name : List ℕ) (files : Option Files) (rest now : Option (List ℕ))
    (out : Output) (journal : List Entry) : Type 0 where
  pub read : Result Job Stop
  pub told : IfSome (named_job name files) (λ it. read ≡ it)
  pub is : JournalOfRead slots brief rest now out journal read

-- where the files failed no job was run
abbrev pub JournalOfVerb :
    Verb → List ℕ → Option Files → Option (List ℕ) → Option (List ℕ) → Bool → Output → List Entry → Type 0
JournalOfVerb (Run how) name files rest now true out journal = journal ≡ []
JournalOfVerb (Run how) name files rest now false out journal =
    JournalOfFile how.concurrency.slots how.brief name files rest now out journal
JournalOfVerb Check name files rest now shelf out journal = journal ≡ []

-- the generated records are read to some place
pub record JournalOfBulk (input : Input) (slots : ℕ) (out : Output) (journal : List Entry) : Type 0 where
  pub now : Option (List ℕ)
  pub is : JournalOfRead slots true (Some (records_text input.start input.events)) now out journal (file_job options_text)

abbrev pub JournalOf :
    Command → List ℕ → Option Files → Option (List ℕ) → Option (List ℕ) → Bool → Output → List Entry → Type 0
JournalOf (OnFile verb) name files rest now shelf out journal = JournalOfVerb verb name files rest now shelf out journal
JournalOf (Generate text) name files rest now shelf out journal = journal ≡ []
JournalOf (Bulk input concurrency) name files rest now shelf out journal =
    JournalOfBulk input concurrency.slots out journal

pub record IsJournalOf (words : List (List ℕ)) (files : Option Files) (rest now : Option (List ℕ)) (shelf : Bool)
    (out : Output) (journal : List Entry) : Type 0 where
  pub by_words : MatchOption (command_of words) (journal ≡ [])
      (λ it. JournalOf it (file_of words) files rest now shelf out journal)

-- for some truth about the files, which their count bears out
pub record TellsJournal (words : List (List ℕ)) (files : Option Files) (rest now : Option (List ℕ))
    (shelf_before shelf_now : ℕ) (out : Output) (journal : List Entry) : Type 0 where
  pub shelf : Bool
  pub count : BearsOut shelf shelf_before shelf_now
  pub is : IsJournalOf words files rest now shelf out journal
