-- What a call came to, on whichever threads it ran: before its journal is written, and in the end.
use Rattle.std.specs.Prelude.{◌≡◌, ◌≢◌, ◌⊎◌, ℕ, Bool, true, false, List, Option, None}
use Rattle.hive_edge.specs.Fault.{Calm, Rose}
use Rattle.hive_edge.specs.Shelf.{Files}
use Rattle.hive_model.specs.declared.entry.Entry.{Entry}
use Rattle.text_model.specs.Timeline.{timeline as timeline_of}
use Rattle.hive_top.specs.Answer.{Answer, CanRise, IsDue, rose}
use Rattle.hive_top.specs.Called.{Called, IsAnswered, IsBrokenOff, MayRead}
use Rattle.hive_top.specs.Journals.{IsJournalOf, TellsJournal}
use Rattle.hive_top.specs.Traces.{IsTraced, MayTrace}
use Rattle.hive_top.specs.Words.{calls_files, calls_trace, command_of}
use Rattle.hive_top.specs.declared.status.Status.{Status}
use Rattle.hive_top.specs.declared.status.Status.TheVariants as status

-- each text that may be due is admitted
abbrev pub HasRoom : List (List ℕ) → Option Files → Option (List ℕ) → (List ℕ → Type 0) → Type 0
HasRoom words files rest admits =
    (now : Option (List ℕ)) (shelf source : Bool) (a : Answer) → IsDue words files rest now shelf source a → admits a.text

-- so is the text of each journal that may be written
abbrev pub HasTraceRoom : List (List ℕ) → Option Files → Option (List ℕ) → (List ℕ → Type 0) → Type 0
HasTraceRoom words files rest admits =
    (entries : List Entry) → MayTrace words files rest entries → admits (timeline_of entries)

-- The functions are what the shelf, the source, the sink and the trace tell of themselves.

pub record IsCalled {F S K : Type 0} (files : F → Option Files) (shelf_faults : F → ℕ) (rest : S → Option (List ℕ))
    (source_faults : S → ℕ) (got : K → Option (List ℕ)) (sink_faults : K → ℕ) (asked : List (List ℕ))
    (shelf shelf_now : F) (source source_now : S) (sink sink_now : K) (ended : Status) (entries : List Entry) :
    Type 0 where
  pub came : Called asked (files shelf) (rest source) (rest source_now) (got sink) (got sink_now)
      (shelf_faults shelf) (shelf_faults shelf_now) (source_faults source) (source_faults source_now)
      (sink_faults sink) (sink_faults sink_now) ended
  pub journal : TellsJournal asked (files shelf) (rest source) (rest source_now)
      (shelf_faults shelf) (shelf_faults shelf_now)
      (record {
        got = got sink;
        got_now = got sink_now;
        count = sink_faults sink;
        count_now = sink_faults sink_now;
        ended = ended;
      }) entries
  pub words : ended ≡ status.Words → command_of asked ≡ None
  pub wrong_words : command_of asked ≡ None → (ended ≡ status.Words) ⊎ (ended ≡ status.Output)
  pub untouched_files : calls_files (command_of asked) ≡ false → shelf_now ≡ shelf
  pub untouched_source : (source_now ≡ source) ⊎ MayRead asked (files shelf) (shelf_faults shelf) (shelf_faults shelf_now)

pub record IsRan {F S K T : Type 0} (files : F → Option Files) (shelf_faults : F → ℕ) (rest : S → Option (List ℕ))
    (source_faults : S → ℕ) (got : K → Option (List ℕ)) (sink_faults : K → ℕ) (traced : T → Option (List ℕ))
    (trace_faults : T → ℕ) (asked : List (List ℕ)) (shelf shelf_now : F) (source source_now : S) (sink sink_now : K)
    (trace trace_now : T) (ended : Status) (entries : List Entry) : Type 0 where
  -- The text that is due, where the sink did not fail and memory sufficed, and its status, where the trace didn't fail.
  pub answer : CanRise (shelf_faults shelf_now) → CanRise (source_faults source_now) →
      Calm (sink_faults sink) (sink_faults sink_now) → ended ≢ status.NoMemory →
      IsAnswered asked (files shelf) (rest source) (rest source_now)
      (rose (shelf_faults shelf) (shelf_faults shelf_now)) (rose (source_faults source) (source_faults source_now))
      (got sink) (got sink_now) (trace_faults trace) (trace_faults trace_now) ended
  -- In any case a prefix of it.
  pub prefix : CanRise (shelf_faults shelf_now) → CanRise (source_faults source_now) →
      IsBrokenOff asked (files shelf) (rest source) (rest source_now)
      (rose (shelf_faults shelf) (shelf_faults shelf_now)) (rose (source_faults source) (source_faults source_now))
      (got sink) (got sink_now)
  -- The causes of the statuses.
  pub words : ended ≡ status.Words → command_of asked ≡ None
  pub wrong_words : command_of asked ≡ None → (ended ≡ status.Words) ⊎ (ended ≡ status.Output)
  pub input : ended ≡ status.Input →
      Rose (shelf_faults shelf) (shelf_faults shelf_now) ⊎ Rose (source_faults source) (source_faults source_now)
  pub output : ended ≡ status.Output →
      Rose (sink_faults sink) (sink_faults sink_now) ⊎ Rose (trace_faults trace) (trace_faults trace_now)
  pub failed : (sink_faults sink_now ≢ sink_faults sink) ⊎ (trace_faults trace_now ≢ trace_faults trace) →
      ended ≢ status.NoMemory → ended ≡ status.Output
  -- The files are touched only for `run` and `check`, and the source only where a job was read.
  pub untouched_files : calls_files (command_of asked) ≡ false → shelf_now ≡ shelf
  pub untouched_source : (source_now ≡ source) ⊎ MayRead asked (files shelf) (shelf_faults shelf) (shelf_faults shelf_now)
  -- The trace got the text of the journal, where the words ask for that.
  pub untouched_trace : calls_trace (command_of asked) ≡ false → trace_now ≡ trace
  pub timeline : calls_trace (command_of asked) ≡ true → IsTraced ended (traced trace) (traced trace_now) entries
  -- The journal is empty where no job was run, and else a run over the records that were read: a complete one where
  -- memory sufficed.
  pub journal : CanRise (shelf_faults shelf_now) →
      IsJournalOf asked (files shelf) (rest source) (rest source_now)
      (rose (shelf_faults shelf) (shelf_faults shelf_now))
      (record {
        got = got sink;
        got_now = got sink_now;
        count = sink_faults sink;
        count_now = sink_faults sink_now;
        ended = ended;
      }) entries
