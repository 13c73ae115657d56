-- What a run came to: what it read, what it wrote, what its scheduler did, and which failure broke it off.
use Rattle.std.specs.Prelude.{◌≡◌, ◌⊎◌, ℕ, Bool, List, Option, Some, IsSomeAnd}
use Rattle.std.specs.Io.KnownBytes.{Appends}
use Rattle.event_loop.specs.Loop.{results_of}
use Rattle.hive_edge.specs.Fault.{Rose}
use Rattle.hive_model.specs.EventRecord.{EventRecord}
use Rattle.hive_model.specs.Job.{Job}
use Rattle.hive_model.specs.Replay.{IsCompleteRun, IsWholeRun, replay}
use Rattle.hive_model.specs.declared.entry.Entry.{Entry}
use Rattle.report_text.specs.Tallied.{CountsAll}
use Rattle.report_text.specs.declared.counts.Counts.{Counts}
use Rattle.text_model.specs.Whole.{Ending as Last, ReadToEnd, RefusedAt, SourceFailed}
use Rattle.hive_pump.specs.Reading.{IsRead}
use Rattle.hive_pump.specs.Written.{AppendsPrefix, results, written}
use Rattle.hive_pump.specs.declared.ending.Ending.{Ending}
use Rattle.hive_pump.specs.declared.ending.Ending.TheVariants as ending

-- how the input ended, by how the run did; a run that was broken off may have seen its end or not
abbrev pub EndsBy : Ending → Option Last → Type 0
EndsBy ending.All last = last ≡ Some ReadToEnd
EndsBy (ending.Refused refusal) last = last ≡ Some (RefusedAt refusal)
EndsBy ending.Source last = last ≡ Some SourceFailed
EndsBy ending.Sink last = Unit {0}
EndsBy ending.NoMemory last = Unit {0}

-- the whole text was written, or a prefix of it where the run was broken off
abbrev pub IsWritten : Ending → Option (List ℕ) → Option (List ℕ) → List ℕ → Type 0
IsWritten ending.Sink old new text = AppendsPrefix old new text
IsWritten ending.NoMemory old new text = AppendsPrefix old new text
IsWritten other old new text = Appends old new text

-- the source's count rose exactly where the input ended by its failure
abbrev pub CountsSource : Option Last → ℕ → ℕ → Type 0
CountsSource (Some SourceFailed) before now = Rose before now
CountsSource last before now = now ≡ before

-- the sink's count rose exactly where the run ended by its failure; a run that memory ended may have met one before
abbrev pub CountsSink : Ending → ℕ → ℕ → Type 0
CountsSink ending.Sink before now = Rose before now
CountsSink ending.NoMemory before now = (now ≡ before) ⊎ Rose before now
CountsSink other before now = now ≡ before

-- the journal is a complete run over exactly these records, or some run over them where memory ran out
abbrev pub IsJournalOf : Ending → Job → ℕ → List EventRecord → List Entry → Type 0
IsJournalOf ending.NoMemory job slots given journal = IsWholeRun job slots given journal
IsJournalOf other job slots given journal = IsCompleteRun job slots given journal

-- the counts are those of the events that ended, which are all where memory sufficed
abbrev pub CountsEnded : Ending → Job → ℕ → List EventRecord → List Entry → Counts → Type 0
CountsEnded ending.NoMemory job slots given journal counts =
    IsSomeAnd (replay job slots given journal) (λ m. CountsAll (results_of m.finished) counts)
CountsEnded other job slots given journal counts = CountsAll (results job given) counts

pub record IsPumped (job : Job) (slots : ℕ) (brief : Bool) (rest rest_now got got_now : Option (List ℕ)) (source source_now sink sink_now : ℕ) (ended : Ending) (counts : Counts)
    (journal : List Entry) : Type 0 where
  -- the records that were admitted
  pub given : List EventRecord
  pub last : Option Last
  pub read : IsRead job rest rest_now given last
  pub ends : EndsBy ended last
  pub bytes : IsWritten ended got got_now (written job brief given last)
  pub source_count : CountsSource last source source_now
  pub sink_count : CountsSink ended sink sink_now
  pub run : IsJournalOf ended job slots given journal
  pub counted : CountsEnded ended job slots given journal counts
