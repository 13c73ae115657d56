-- What a call owes where files and source tell what they hold: a text, and the status that goes with it. The causes stand in
-- the order words, files, options, and then the input; a failure of the files or the source takes the place of what follows it.
-- Neither how much is done at once nor whether the journal is asked for has a part in it.
use Rattle.std.specs.Prelude.{◌≡◌, ℕ, ◌-◌, ◌^◌, ◌<◌, nat_eq, nat_le, Bool, true, false, not, if◌then◌else◌, List, length, MatchOption, Option, None, Result, Ok, Err, IfSome}
use Rattle.std.specs.Io.KnownBytes.{Consumes}
use Rattle.std.specs.Option.{option_and_then, option_map, option_map_or}
use Rattle.hive_edge.specs.Shelf.{Files, text_of as text_named}
use Rattle.hive_gen.specs.EventTexts.{records_text}
use Rattle.hive_gen.specs.OptionsText.{options_text}
use Rattle.hive_model.specs.EventResult.{EventResult}
use Rattle.hive_model.specs.Job.{Job}
use Rattle.hive_pump.specs.Written.{results, text_of}
use Rattle.job_options.specs.Known.{known_language}
use Rattle.text_model.specs.Jobs.{job_of}
use Rattle.text_model.specs.Records.{Known, records_of, so_far}
use Rattle.text_model.specs.Steps.{map_err}
use Rattle.text_model.specs.Whole.{Ending, ReadToEnd, RefusedAt, SourceFailed, is_ok, tally}
use Rattle.text_model.specs.declared.limits.TheConstants.{MOST_OPTIONS_BYTES}
use Rattle.hive_top.specs.JobLine.{job_line}
use Rattle.hive_top.specs.Stopped.{status_at, text_at}
use Rattle.hive_top.specs.Words.{command_of, file_of}
use Rattle.hive_top.specs.declared.commands.Command.{Command}
use Rattle.hive_top.specs.declared.commands.Command.TheVariants.{OnFile, Generate, Bulk}
use Rattle.hive_top.specs.declared.commands.Generated.{Generated}
use Rattle.hive_top.specs.declared.commands.Generated.TheVariants.{Options as OptionsText, Records as RecordsText}
use Rattle.hive_top.specs.declared.commands.Input.{Input}
use Rattle.hive_top.specs.declared.commands.Verb.{Verb}
use Rattle.hive_top.specs.declared.commands.Verb.TheVariants.{Run, Check}
use Rattle.hive_top.specs.declared.status.Status.{Status}
use Rattle.hive_top.specs.declared.status.Status.TheVariants as status
use Rattle.hive_top.specs.declared.stop.Stop.{Stop}
use Rattle.hive_top.specs.declared.stop.Stop.TheVariants as stop

pub record Answer : Type 0 where
  pub text : List ℕ
  pub status : Status

abbrev pub stopped : Stop → Answer
stopped it = record { text = text_at it; status = status_at it }

-- the job of an options text, or what stops the call
unfoldable pub file_job : List ℕ → Result Job Stop
file_job text =
    if nat_le (length text) MOST_OPTIONS_BYTES then map_err stop.Options (job_of known_language text) else Err stop.TooLong

-- that of a file's name, where the files are told; a name that isn't there is a failure
abbrev pub named_job : List ℕ → Option Files → Option (Result Job Stop)
named_job name files = option_map file_job (option_and_then (text_named name) files)

-- by how the input ended, and whether as many results are ok as there are
abbrev pub status_of : List EventResult → Ending → Status
status_of rs ReadToEnd = if nat_eq (tally is_ok rs) (length rs) then status.AllOk else status.SomeNot
status_of rs (RefusedAt refusal) = status.Record
status_of rs SourceFailed = status.Input

-- the whole text of what is known of the input, or its last line alone; it ends so where no line was refused
abbrev pub run_answer : Job → Bool → Ending → Known → Answer
run_answer job brief last known = record {
  text = text_of job brief last known;
  status = status_of (results job known.records) (option_map_or RefusedAt known.refusal last);
}

-- The answer of a run. Where the source failed, it is that of the bytes which it gave, and no line of them was refused.
abbrev pub IsDueOfJob : Option (List ℕ) → Option (List ℕ) → Bool → Job → Bool → Answer → Type 0
IsDueOfJob rest now false job brief a = IfSome rest (λ text. a ≡ run_answer job brief ReadToEnd (records_of job text))
IsDueOfJob rest now true job brief a =
    (text : List ℕ) × Consumes rest now text × ((so_far job text).refusal ≡ None)
    × (a ≡ run_answer job brief SourceFailed (so_far job text))

-- what `check` says of a job that was read
abbrev pub checked : Job → Answer
checked job = record { text = job_line job; status = status.AllOk }

abbrev pub IsDueOfVerb : Verb → Option (List ℕ) → Option (List ℕ) → Bool → Job → Answer → Type 0
IsDueOfVerb (Run how) rest now source job a = IsDueOfJob rest now source job how.brief a
IsDueOfVerb Check rest now source job a = a ≡ checked job

abbrev pub IsDueOfFile : Verb → Option (List ℕ) → Option (List ℕ) → Bool → Result Job Stop → Answer → Type 0
IsDueOfFile verb rest now source (Ok job) a = IsDueOfVerb verb rest now source job a
IsDueOfFile verb rest now source (Err it) a = a ≡ stopped it

abbrev pub IsDueOfName :
    Verb → List ℕ → Option Files → Option (List ℕ) → Option (List ℕ) → Bool → Bool → Answer → Type 0
IsDueOfName verb name files rest now true source a = a ≡ stopped stop.Shelf
IsDueOfName verb name files rest now false source a =
    IfSome (named_job name files) (λ read. IsDueOfFile verb rest now source read a)

-- a generated text
abbrev pub generated : Generated → Answer
generated OptionsText = record { text = options_text; status = status.AllOk }
generated (RecordsText input) = record { text = records_text input.start input.events; status = status.AllOk }

-- `bulk` is `run --brief` on generated records and the job of the generated options
abbrev pub bulk_answer : Input → Result Job Stop → Answer
bulk_answer input (Ok job) = run_answer job true ReadToEnd (records_of job (records_text input.start input.events))
bulk_answer input (Err it) = stopped it

abbrev pub IsDueOf :
    Command → List ℕ → Option Files → Option (List ℕ) → Option (List ℕ) → Bool → Bool → Answer → Type 0
IsDueOf (OnFile verb) name files rest now shelf source a = IsDueOfName verb name files rest now shelf source a
IsDueOf (Generate text) name files rest now shelf source a = a ≡ generated text
IsDueOf (Bulk input concurrency) name files rest now shelf source a = a ≡ bulk_answer input (file_job options_text)

-- The answer that is due, where this is true of files and source. What isn't told leaves it open.
pub record IsDue (words : List (List ℕ)) (files : Option Files) (rest now : Option (List ℕ)) (shelf source : Bool)
    (a : Answer) : Type 0 where
  pub due : MatchOption (command_of words) (a ≡ stopped stop.Words)
      (λ it. IsDueOf it (file_of words) files rest now shelf source a)

-- the count rose between two moments
abbrev pub rose : ℕ → ℕ → Bool
rose before now = not (nat_eq now before)

-- the count can still rise
abbrev pub CanRise : ℕ → Type 0
CanRise count = count < 2 ^ 64 - 1
