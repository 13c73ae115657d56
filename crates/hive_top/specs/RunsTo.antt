-- What the run of a job came to, in the terms of its run and of its last flush.
use Rattle.std.specs.Prelude.{◌≡◌, ◌⊎◌, ℕ, Bool, nat_eq, if◌then◌else◌, List, Option, Some}
use Rattle.std.specs.Io.KnownBytes.{Appends, Keeps}
use Rattle.hive_edge.specs.Fault.{Rose}
use Rattle.hive_model.specs.EventRecord.{EventRecord}
use Rattle.hive_model.specs.Job.{Job}
use Rattle.hive_model.specs.Replay.{IsCompleteRun, IsWholeRun}
use Rattle.hive_model.specs.declared.entry.Entry.{Entry}
use Rattle.hive_pump.specs.Pumped.{CountsSource}
use Rattle.hive_pump.specs.Reading.{IsRead}
use Rattle.hive_pump.specs.Written.{AppendsPrefix, results, written}
use Rattle.hive_pump.specs.declared.ending.Ending.{Ending}
use Rattle.hive_pump.specs.declared.ending.Ending.TheVariants as ending
use Rattle.report_text.specs.declared.counts.Counts.{Counts}
use Rattle.text_model.specs.Whole.{Ending as Last}
use Rattle.hive_top.specs.Answer.{status_of}
use Rattle.hive_top.specs.declared.status.Status.{Status}
use Rattle.hive_top.specs.declared.status.Status.TheVariants as status

-- the status of a run that ended so with these counts
abbrev pub status_by : Ending → Counts → Status
status_by ending.All counts = if nat_eq counts.ok counts.events then status.AllOk else status.SomeNot
status_by (ending.Refused refusal) counts = status.Record
status_by ending.Source counts = status.Input
status_by ending.Sink counts = status.Output
status_by ending.NoMemory counts = status.NoMemory

-- the whole text was written, and the status is that of how the input ended; or a prefix was
abbrev pub WroteRun :
    Status → Option (List ℕ) → Option (List ℕ) → ℕ → ℕ → Job → Bool → List EventRecord → Option Last → Type 0
WroteRun status.Output got got_now sink sink_now job brief given last = AppendsPrefix got got_now (written job brief given last) × Rose sink sink_now
WroteRun status.NoMemory got got_now sink sink_now job brief given last =
    AppendsPrefix got got_now (written job brief given last) × ((sink_now ≡ sink) ⊎ Rose sink sink_now)
WroteRun other got got_now sink sink_now job brief given last =
    (end : Last) × (last ≡ Some end) × (other ≡ status_of (results job given) end)
    × Appends got got_now (written job brief given last) × (sink_now ≡ sink)

-- the journal is a complete run over these records, or some run over them where memory ran out
abbrev pub JournalBy : Status → Job → ℕ → List EventRecord → List Entry → Type 0
JournalBy status.NoMemory job slots given journal = IsWholeRun job slots given journal
JournalBy other job slots given journal = IsCompleteRun job slots given journal

pub record RunsTo (job : Job) (slots : ℕ) (brief : Bool) (rest now got got_now : Option (List ℕ)) (source source_now sink sink_now : ℕ)
    (ended : Status) (journal : List Entry) : Type 0 where
  pub given : List EventRecord
  pub last : Option Last
  pub read : IsRead job rest now given last
  pub source_count : CountsSource last source source_now
  pub wrote : WroteRun ended got got_now sink sink_now job brief given last
  pub run : JournalBy ended job slots given journal

-- the sink was flushed, or failed at that; a call that was broken off flushes nothing
abbrev pub Flushes : Option (List ℕ) → Option (List ℕ) → ℕ → ℕ → Status → Status → Type 0
Flushes got got_now sink sink_now status.Output after = (after ≡ status.Output) × (got_now ≡ got) × (sink_now ≡ sink)
Flushes got got_now sink sink_now status.NoMemory after = (after ≡ status.NoMemory) × (got_now ≡ got) × (sink_now ≡ sink)
Flushes got got_now sink sink_now before after =
    Keeps got got_now × (((after ≡ before) × (sink_now ≡ sink)) ⊎ ((after ≡ status.Output) × Rose sink sink_now))
