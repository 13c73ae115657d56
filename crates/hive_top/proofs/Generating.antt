-- A run of generated records: its line in memory, what was written of it, and its journal.
use Rattle.std.proofs.Common.{◌≡◌, ◌≢◌, inl, ℕ, ◌≤◌, nat_le, length, Bool, true, false, List, [], ◌++◌, Option, Some, Ok, Err, refl, sym, subst, ◌∙◌, arith}
use Rattle.std.proofs.KnownBytes.{Appends-nil}
use Rattle.std.proofs.lemmas.Bool.Decides.{nat_tests}
use Rattle.std.specs.Io.KnownBytes.{Appends, Keeps}
use Rattle.hive_edge.specs.Fault.{Rose}
use Rattle.hive_gen.specs.EventTexts.{records_text}
use Rattle.hive_gen.specs.OptionsText.{options_text}
use Rattle.hive_model.specs.EventRecord.{EventRecord}
use Rattle.hive_model.specs.Job.{Job}
use Rattle.hive_model.specs.declared.entry.Entry.{Entry}
use Rattle.hive_pump.specs.Pumped.{IsPumped}
use Rattle.hive_pump.specs.Written.{AppendsPrefix, results, written}
use Rattle.hive_pump.specs.declared.ending.Ending.{Ending}
use Rattle.hive_pump.specs.declared.ending.Ending.TheVariants as ending
use Rattle.report_text.specs.declared.counts.Counts.{Counts}
use Rattle.text_model.specs.Records.{records_of}
use Rattle.text_model.specs.Whole.{Ending as Last, ReadToEnd, RefusedAt, SourceFailed}
use Rattle.text_model.specs.declared.limits.TheConstants.{MOST_OPTIONS_BYTES}
use Rattle.hive_top.proofs.Calls.{ran-words}
use Rattle.hive_top.proofs.CameTo.{CameTo, came-to}
use Rattle.hive_top.proofs.Journals.{has-run, out-of, want}
use Rattle.hive_top.proofs.Runs.{by-counts, completed, not-memory, not-output, run-of}
use Rattle.hive_top.specs.Answer.{Answer, IsDueOfJob, bulk_answer, file_job, run_answer, status_of, stopped}
use Rattle.hive_top.specs.Bulk.{WroteLine}
use Rattle.hive_top.specs.Called.{BearsOut, IsOfText, ReadsJob, Wrote}
use Rattle.hive_top.specs.Journals.{JournalOfBulk}
use Rattle.hive_top.specs.RunsTo.{Flushes, RunsTo, WroteRun, status_by}
use Rattle.hive_top.specs.Status.{IsWhole}
use Rattle.hive_top.specs.declared.commands.Input.{Input}
use Rattle.hive_top.specs.declared.status.Status.{Status}
use Rattle.hive_top.specs.declared.status.Status.TheVariants as status
use Rattle.hive_top.specs.declared.stop.Stop.{Stop}
use Rattle.hive_top.specs.declared.stop.Stop.TheVariants as stop

none-written : (got : Option (List ℕ)) (text : List ℕ) → AppendsPrefix got got text
none-written got text = record { front = []; back = text; whole = refl; bytes = Appends-nil got }

-- a source that never fails has a count of 0
calm-source : Rose 0 0 → ⊥
calm-source rose = let it = rose.1 in omega (arith, it)

-- the line in memory

module _ (line : List ℕ) (got got' : Option (List ℕ)) (k k' : ℕ) where
  -- the line was written, with the status that goes with it
  whole-line : (before after : Status) → (before ≡ status.Output → ⊥) → (before ≡ status.NoMemory → ⊥) →
      WroteLine line before after got got' k k' → Wrote after got got' k k' (record { text = line; status = before })
  whole-line status.Output after a b w = absurd (a refl)
  whole-line status.NoMemory after a b w = absurd (b refl)
  whole-line status.AllOk after a b w = w
  whole-line status.SomeNot after a b w = w
  whole-line status.Words after a b w = w
  whole-line status.Options after a b w = w
  whole-line status.Record after a b w = w
  whole-line status.Input after a b w = w

  wrote-line : (job : Job) (given : List EventRecord) (last : Option Last) (end : Last) → last ≡ Some end →
      line ≡ written job true given last → (before after : Status) → before ≡ status_of (results job given) end →
      Wrote after got got' k k' (record { text = line; status = before }) → WroteRun after got got' k k' job true given last
  wrote-line job given last end is same before status.Output st w = (subst (λ t. AppendsPrefix got got' t) same w.0, w.1)
  wrote-line job given last end is same before status.NoMemory st w = (subst (λ t. AppendsPrefix got got' t) same w.0, w.1)
  wrote-line job given last end is same before status.AllOk st w = (end, is, w.1 ∙ st, subst (λ t. Appends got got' t) same w.0, w.2)
  wrote-line job given last end is same before status.SomeNot st w = (end, is, w.1 ∙ st, subst (λ t. Appends got got' t) same w.0, w.2)
  wrote-line job given last end is same before status.Words st w = (end, is, w.1 ∙ st, subst (λ t. Appends got got' t) same w.0, w.2)
  wrote-line job given last end is same before status.Options st w = (end, is, w.1 ∙ st, subst (λ t. Appends got got' t) same w.0, w.2)
  wrote-line job given last end is same before status.Record st w = (end, is, w.1 ∙ st, subst (λ t. Appends got got' t) same w.0, w.2)
  wrote-line job given last end is same before status.Input st w = (end, is, w.1 ∙ st, subst (λ t. Appends got got' t) same w.0, w.2)

module _ (job : Job) (slots : ℕ) (text : List ℕ) (now : Option (List ℕ)) (line : List ℕ) (m m' : ℕ) (counts : Counts)
    (journal : List Entry) where
  abbrev pub Pumped : Ending → Type 0
  Pumped ended = IsPumped job slots true (Some text) now (Some []) (Some line) 0 0 m m' ended counts journal

  -- the run, by what was written of its line
  pub line-run : (got got' : Option (List ℕ)) (k k' : ℕ) (ended : Ending) (after : Status) → Pumped ended →
      WroteLine line (status_by ended counts) after got got' k k' →
      RunsTo job slots true (Some text) now got got' 0 0 k k' after journal
  line-run got got' k k' ending.Sink after p (e, same, still) = record {
    given = p.given;
    last = p.last;
    read = p.read;
    source_count = p.source_count;
    wrote = rw (e, same, still) (none-written got (written job true p.given p.last), inl refl);
    run = completed job slots p.given journal after p.run;
  }
  line-run got got' k k' ending.NoMemory after p (e, same, still) = record {
    given = p.given;
    last = p.last;
    read = p.read;
    source_count = p.source_count;
    wrote = rw (e, same, still) (none-written got (written job true p.given p.last), inl refl);
    run = rw e p.run;
  }
  line-run got got' k k' ending.All after p w = record {
    given = p.given;
    last = p.last;
    read = p.read;
    source_count = p.source_count;
    wrote = wrote-line line got got' k k' job p.given p.last ReadToEnd p.ends p.bytes (status_by ending.All counts) after
        (by-counts job p.given counts p.counted)
        (whole-line line got got' k k' (status_by ending.All counts) after (not-output counts) (not-memory counts) w);
    run = completed job slots p.given journal after p.run;
  }
  line-run got got' k k' (ending.Refused refusal) after p w = record {
    given = p.given;
    last = p.last;
    read = p.read;
    source_count = p.source_count;
    wrote = wrote-line line got got' k k' job p.given p.last (RefusedAt refusal) p.ends p.bytes status.Record after refl w;
    run = completed job slots p.given journal after p.run;
  }
  line-run got got' k k' ending.Source after p w = record {
    given = p.given;
    last = p.last;
    read = p.read;
    source_count = p.source_count;
    wrote = wrote-line line got got' k k' job p.given p.last SourceFailed p.ends p.bytes status.Input after refl w;
    run = completed job slots p.given journal after p.run;
  }

flushes-none : (got : Option (List ℕ)) (k : ℕ) (it : Status) → Keeps got got → Flushes got got k k it it
flushes-none got k status.Output keeps = (refl, refl, refl)
flushes-none got k status.NoMemory keeps = (refl, refl, refl)
flushes-none got k status.AllOk keeps = (keeps, inl (refl, refl))
flushes-none got k status.SomeNot keeps = (keeps, inl (refl, refl))
flushes-none got k status.Words keeps = (keeps, inl (refl, refl))
flushes-none got k status.Options keeps = (keeps, inl (refl, refl))
flushes-none got k status.Record keeps = (keeps, inl (refl, refl))
flushes-none got k status.Input keeps = (keeps, inl (refl, refl))

-- what came of a run over a source in memory

abbrev end-answer : Job → List ℕ → Answer
end-answer job text = run_answer job true ReadToEnd (records_of job text)

came-whole : (job : Job) (text : List ℕ) (now got got' : Option (List ℕ)) (k k' : ℕ) (ended : Status) →
    CameTo job true (Some text) now got got' 0 0 k k' ended → Wrote ended got got' k k' (end-answer job text)
came-whole job text now got got' k k' ended came = by came.source came.count came.due
  where
    by : (source : Bool) → BearsOut source 0 0 → IsDueOfJob (Some text) now source job true came.answer →
        Wrote ended got got' k k' (end-answer job text)
    by true rose due = absurd (calm-source rose)
    by false calm due = subst (λ a. Wrote ended got got' k k' a) due came.wrote

came-calm : (job : Job) (text : List ℕ) (now got got' : Option (List ℕ)) (k k' : ℕ) (ended : Status) →
    CameTo job true (Some text) now got got' 0 0 k k' ended → ended ≡ status.Input → ⊥
came-calm job text now got got' k k' ended came e = by came.source came.count (came.input e)
  where
    by : (source : Bool) → BearsOut source 0 0 → source ≡ true → ⊥
    by true rose is = calm-source rose
    by false calm is = cc

-- the line that a whole run wrote to memory is the text that is due
pub line-due : (job : Job) (slots : ℕ) (text : List ℕ) (now : Option (List ℕ)) (line : List ℕ) (m m' : ℕ) (counts : Counts)
    (journal : List Entry) (ended : Ending) → Pumped job slots text now line m m' counts journal ended →
    IsWhole (status_by ended counts) → line ≡ (end-answer job text).text
line-due job slots text now line m m' counts journal ended p is_whole =
    let st = status_by ended counts in
    let ran = run-of job slots true (Some text) now (Some []) (Some line) (Some line) 0 0 m m' m' ended counts journal st p
    (flushes-none (Some line) m' st refl) in
    by st is_whole (came-whole job text now (Some []) (Some line) m m' st
    (came-to job true (Some text) now (Some []) (Some line) 0 0 m m' slots st journal ran))
  where
    by : (st : Status) → IsWhole st → Wrote st (Some []) (Some line) m m' (end-answer job text) →
        line ≡ (end-answer job text).text
    by status.Output h w = absurd h
    by status.NoMemory h w = absurd h
    by status.AllOk h w = w.0
    by status.SomeNot h w = w.0
    by status.Words h w = w.0
    by status.Options h w = w.0
    by status.Record h w = w.0
    by status.Input h w = w.0

-- what is written of a run of generated records

module _ (input : Input) (slots : ℕ) (got got' : Option (List ℕ)) (k k' : ℕ) (ended : Status) (journal : List Entry) where
  abbrev pub Text : List ℕ
  Text = records_text input.start input.events

  module _ (job : Job) (now : Option (List ℕ)) (reads : Ok job ≡ file_job options_text)
      (ran : RunsTo job slots true (Some Text) now got got' 0 0 k k' ended journal) where
    came : CameTo job true (Some Text) now got got' 0 0 k k' ended
    came = came-to job true (Some Text) now got got' 0 0 k k' slots ended journal ran

    pub bulk-wrote : Wrote ended got got' k k' (bulk_answer input (file_job options_text))
    bulk-wrote =
        subst (λ read. Wrote ended got got' k k' (bulk_answer input read)) reads
        (came-whole job Text now got got' k k' ended came)

    pub bulk-journal : JournalOfBulk input slots (out-of got got' k k' ended) journal
    bulk-journal = record {
      now = now;
      is = rw (← reads) (has-run job slots true (Some Text) now got got' 0 0 k k' ended journal ran);
    }

    pub bulk-input : ended ≢ status.Input
    bulk-input e = came-calm job Text now got got' k k' ended came e

    pub bulk-words : ended ≢ status.Words
    bulk-words e = ran-words job slots true (Some Text) now got got' 0 0 k k' ended journal ran e

  -- the options are refused, or memory ran out at them
  pub stop-wrote : (it : Stop) → ReadsJob (Some (file_job options_text)) (Err it) → IsOfText (Err it) →
      (it ≡ stop.NoMemory → (ended ≡ status.NoMemory) × (got' ≡ got) × (k' ≡ k)) →
      Wrote ended got got' k k' (stopped it) → Wrote ended got got' k k' (bulk_answer input (file_job options_text))
  stop-wrote stop.Words reads of_text memory w = absurd of_text
  stop-wrote stop.Shelf reads of_text memory w = absurd of_text
  stop-wrote stop.TooLong reads of_text memory w = absurd of_text
  stop-wrote (stop.Options refusal) reads of_text memory w =
      subst (λ read. Wrote ended got got' k k' (bulk_answer input read)) reads w
  stop-wrote stop.NoMemory reads of_text memory w =
      let m = memory refl in
      rw (m.0, m.1, m.2) (none-written got (bulk_answer input (file_job options_text)).text, inl refl)

  pub stop-journal : (it : Stop) → ReadsJob (Some (file_job options_text)) (Err it) → IsOfText (Err it) →
      (it ≡ stop.NoMemory → (ended ≡ status.NoMemory) × (got' ≡ got) × (k' ≡ k)) → journal ≡ [] →
      JournalOfBulk input slots (out-of got got' k k' ended) journal
  stop-journal stop.Words reads of_text memory empty = absurd of_text
  stop-journal stop.Shelf reads of_text memory empty = absurd of_text
  stop-journal stop.TooLong reads of_text memory empty = absurd of_text
  stop-journal (stop.Options refusal) reads of_text memory empty = record { now = Some Text; is = rw (← reads) empty }
  stop-journal stop.NoMemory reads of_text memory empty =
      let m = memory refl in
      record {
        now = Some Text;
        is = want slots true (Some Text) got got' k k' ended journal empty m.0 m.1 (file_job options_text);
      }

-- the text that stops it may be written
pub stop-room : (input : Input) (admits : List ℕ → Type 0) (front : (a b : List ℕ) → admits (a ++ b) → admits a) →
    admits (bulk_answer input (file_job options_text)).text → (it : Stop) →
    ReadsJob (Some (file_job options_text)) (Err it) → IsOfText (Err it) → admits (stopped it).text
stop-room input admits front room stop.Words reads of_text = absurd of_text
stop-room input admits front room stop.Shelf reads of_text = absurd of_text
stop-room input admits front room stop.TooLong reads of_text = absurd of_text
stop-room input admits front room (stop.Options refusal) reads of_text =
    subst (λ read. admits (bulk_answer input read).text) (sym reads) room
stop-room input admits front room stop.NoMemory reads of_text = front [] (bulk_answer input (file_job options_text)).text room

-- generated options are within their limit
pub few-options : nat_le (length options_text) MOST_OPTIONS_BYTES ≡ true
unfolding options_text
few-options = refl

pub fits-limit : (text : List ℕ) → text ≡ options_text → length text ≤ MOST_OPTIONS_BYTES
fits-limit text e = rw e (by few-options)
  where
    by : nat_le (length options_text) MOST_OPTIONS_BYTES ≡ true → length options_text ≤ MOST_OPTIONS_BYTES
    by few = grind (arith, nat_tests)
