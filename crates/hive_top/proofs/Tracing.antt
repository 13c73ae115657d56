-- What a call comes to after its journal was written, or was not asked for.
use Rattle.std.proofs.Common.{◌≡◌, ◌≢◌, ◌⊎◌, inl, inr, ℕ, Bool, true, false, List, [], Option, Some, None, Result, Ok, Err, IfSome, refl, sym, subst, ◌∙◌}
use Rattle.std.proofs.KnownBytes.{Appends-kept, Appends-nil}
use Rattle.std.specs.Io.KnownBytes.{Appends, Keeps}
use Rattle.std.specs.Prelude.{IsSome, MatchOption}
use Rattle.hive_edge.specs.Fault.{Calm, Rose}
use Rattle.hive_edge.specs.Shelf.{Files}
use Rattle.hive_gen.specs.EventTexts.{records_text}
use Rattle.hive_gen.specs.OptionsText.{options_text}
use Rattle.hive_model.specs.EventRecord.{EventRecord}
use Rattle.hive_model.specs.Job.{Job}
use Rattle.hive_model.specs.Replay.{IsCompleteRun}
use Rattle.hive_model.specs.declared.entry.Entry.{Entry}
use Rattle.text_model.specs.Timeline.{timeline}
use Rattle.text_model.specs.Whole.{Ending as Last}
use Rattle.hive_top.proofs.DueLaws.{answered, failed-cause, input-cause, not-calm, output-cause}
use Rattle.hive_top.proofs.Journals.{journal-told, out-of}
use Rattle.hive_top.proofs.Runs.{completed}
use Rattle.hive_top.specs.Answer.{CanRise, file_job, named_job, rose}
use Rattle.hive_top.specs.Called.{Called, IsAnswered}
use Rattle.hive_top.specs.Journals.{HasRun, IsJournalOf, JournalOf, JournalOfRead, JournalOfVerb, TellsJournal}
use Rattle.hive_top.specs.RunsTo.{JournalBy}
use Rattle.hive_top.specs.Status.{IsWhole}
use Rattle.hive_top.specs.Traces.{Follows, IsTraced, MayTrace}
use Rattle.hive_top.specs.Words.{calls_trace, command_of, file_of}
use Rattle.hive_top.specs.declared.commands.Command.{Command}
use Rattle.hive_top.specs.declared.commands.Command.TheVariants.{OnFile, Generate, Bulk}
use Rattle.hive_top.specs.declared.commands.How.{How}
use Rattle.hive_top.specs.declared.commands.Verb.{Verb}
use Rattle.hive_top.specs.declared.commands.Verb.TheVariants.{Run, Check}
use Rattle.hive_top.specs.declared.status.Status.{Status}
use Rattle.hive_top.specs.declared.status.Status.TheVariants as status
use Rattle.hive_top.specs.declared.stop.Stop.{Stop}

-- what the trace holds

timeline-none : timeline [] ≡ []
unfolding timeline
timeline-none = refl

-- a trace that isn't called has the text of no journal, and a prefix of any
pub traced-none : (ended : Status) (got : Option (List ℕ)) (journal : List Entry) → (IsWhole ended → journal ≡ []) →
    IsTraced ended got got journal
traced-none status.Output got journal none =
    record { front = []; back = timeline journal; whole = refl; bytes = Appends-nil got }
traced-none status.NoMemory got journal none =
    record { front = []; back = timeline journal; whole = refl; bytes = Appends-nil got }
traced-none status.AllOk got journal none = rw (none tt, timeline-none) (Appends-nil got)
traced-none status.SomeNot got journal none = rw (none tt, timeline-none) (Appends-nil got)
traced-none status.Words got journal none = rw (none tt, timeline-none) (Appends-nil got)
traced-none status.Options got journal none = rw (none tt, timeline-none) (Appends-nil got)
traced-none status.Record got journal none = rw (none tt, timeline-none) (Appends-nil got)
traced-none status.Input got journal none = rw (none tt, timeline-none) (Appends-nil got)

pub traced-whole : (ended : Status) (old mid new : Option (List ℕ)) (journal : List Entry) → IsWhole ended →
    Appends old mid (timeline journal) → Keeps mid new → IsTraced ended old new journal
traced-whole status.Output old mid new journal h bytes keeps = absurd h
traced-whole status.NoMemory old mid new journal h bytes keeps = absurd h
traced-whole status.AllOk old mid new journal h bytes keeps = Appends-kept old mid new (timeline journal) bytes keeps
traced-whole status.SomeNot old mid new journal h bytes keeps = Appends-kept old mid new (timeline journal) bytes keeps
traced-whole status.Words old mid new journal h bytes keeps = Appends-kept old mid new (timeline journal) bytes keeps
traced-whole status.Options old mid new journal h bytes keeps = Appends-kept old mid new (timeline journal) bytes keeps
traced-whole status.Record old mid new journal h bytes keeps = Appends-kept old mid new (timeline journal) bytes keeps
traced-whole status.Input old mid new journal h bytes keeps = Appends-kept old mid new (timeline journal) bytes keeps

-- how the call ends

no-memory-before : (before after : Status) (t t' : ℕ) → Follows before after t t' → after ≢ status.NoMemory → before ≢ status.NoMemory
no-memory-before before after t t' (inl f) enough e = enough (f.0 ∙ e)
no-memory-before before after t t' (inr (inl f)) enough e = let never = rw e at f.0 in never
no-memory-before before after t t' (inr (inr f)) enough e = enough f.1

module _ (words : List (List ℕ)) (files : Option Files) (rest now got got' : Option (List ℕ)) (f f' s s' k k' t t' : ℕ)
    (before after : Status) (called : Called words files rest now got got' f f' s s' k k' before) (follows : Follows before after t t') where
  pub answered-after : CanRise f' → CanRise s' → Calm k k' → after ≢ status.NoMemory →
      IsAnswered words files rest now (rose f f') (rose s s') got got' t t' after
  answered-after fb sb calm enough =
      let a = answered words files rest now got got' f f' s s' k k' before called fb sb calm
      (no-memory-before before after t t' follows enough) in
      record { answer = a.0; due = a.1; bytes = a.2; status_is = λ still. is follows still a.3 }
    where
      is : Follows before after t t' → Calm t t' → {a : Status} → before ≡ a → after ≡ a
      is (inl g) still e = g.0 ∙ e
      is (inr (inl g)) still e = absurd (not-calm t t' g.2 still)
      is (inr (inr g)) still e = absurd (enough g.1)

  -- a status other than those of a call that was broken off is that of before
  same-before : (other : Status) → after ≡ other → (status.Output ≡ other → ⊥) → (status.NoMemory ≡ other → ⊥) → before ≡ other
  same-before other e out memory = by follows
    where
      by : Follows before after t t' → before ≡ other
      by (inl g) = sym g.0 ∙ e
      by (inr (inl g)) = absurd (out (sym g.1 ∙ e))
      by (inr (inr g)) = absurd (memory (sym g.1 ∙ e))

  pub words-after : (before ≡ status.Words → command_of words ≡ None) → after ≡ status.Words → command_of words ≡ None
  words-after told e = told (same-before status.Words e (λ x. cc) (λ x. cc))

  pub input-after : after ≡ status.Input → Rose f f' ⊎ Rose s s'
  input-after e =
      input-cause words files rest now got got' f f' s s' k k' before called
      (same-before status.Input e (λ x. cc) (λ x. cc))

  pub output-after : after ≡ status.Output → Rose k k' ⊎ Rose t t'
  output-after e = by follows
    where
      by : Follows before after t t' → Rose k k' ⊎ Rose t t'
      by (inl g) = inl (output-cause words files rest now got got' f f' s s' k k' before called (sym g.0 ∙ e))
      by (inr (inl g)) = inr g.2
      by (inr (inr g)) = absurd (let x = sym g.1 ∙ e in cc)

  pub failed-after : (k' ≢ k) ⊎ (t' ≢ t) → after ≢ status.NoMemory → after ≡ status.Output
  failed-after changed enough = by follows changed
    where
      by : Follows before after t t' → (k' ≢ k) ⊎ (t' ≢ t) → after ≡ status.Output
      by (inl g) (inl changed) =
          g.0 ∙ failed-cause words files rest now got got' f f' s s' k k' before called changed
          (no-memory-before before after t t' follows enough)
      by (inl g) (inr changed) = absurd (changed g.1)
      by (inr (inl g)) changed = g.1
      by (inr (inr g)) changed = absurd (enough g.1)

-- the journal

complete-of : (job : Job) (slots : ℕ) (given : List EventRecord) (journal : List Entry) (ended : Status) → IsWhole ended →
    JournalBy ended job slots given journal → IsCompleteRun job slots given journal
complete-of job slots given journal status.Output h run = absurd h
complete-of job slots given journal status.NoMemory h run = absurd h
complete-of job slots given journal status.AllOk h run = run
complete-of job slots given journal status.SomeNot h run = run
complete-of job slots given journal status.Words h run = run
complete-of job slots given journal status.Options h run = run
complete-of job slots given journal status.Record h run = run
complete-of job slots given journal status.Input h run = run

module _ (got got' : Option (List ℕ)) (k k' t t' : ℕ) (before after : Status) (follows : Follows before after t t')
    (journal : List Entry) where
  run-broken : (job : Job) (slots : ℕ) (brief : Bool) (rest now : Option (List ℕ)) (broken : Status) → IsWhole before →
      (IsWhole broken → ⊥) → HasRun job slots brief rest now (out-of got got' k k' before) journal →
      HasRun job slots brief rest now (out-of got got' k k' broken) journal
  run-broken job slots brief rest now broken is_whole never h = record {
    given = h.given;
    last = h.last;
    read = h.read;
    ends = λ w. absurd (never w);
    ends_calm = λ enough calm. h.ends is_whole;
    bytes = h.bytes;
    run = completed job slots h.given journal broken (complete-of job slots h.given journal before is_whole h.run);
  }

  run-after : (job : Job) (slots : ℕ) (brief : Bool) (rest now : Option (List ℕ)) →
      HasRun job slots brief rest now (out-of got got' k k' before) journal →
      HasRun job slots brief rest now (out-of got got' k k' after) journal
  run-after job slots brief rest now h = by follows
    where
      by : Follows before after t t' → HasRun job slots brief rest now (out-of got got' k k' after) journal
      by (inl g) = rw g.0 h
      by (inr (inl g)) = rw g.1 (run-broken job slots brief rest now status.Output g.0 (λ x. x) h)
      by (inr (inr g)) = rw g.1 (run-broken job slots brief rest now status.NoMemory g.0 (λ x. x) h)

  read-after : (slots : ℕ) (brief : Bool) (rest now : Option (List ℕ)) (read : Result Job Stop) →
      JournalOfRead slots brief rest now (out-of got got' k k' before) journal read →
      JournalOfRead slots brief rest now (out-of got got' k k' after) journal read
  read-after slots brief rest now (Ok job) h = run-after job slots brief rest now h
  read-after slots brief rest now (Err it) h = h

  verb-after : (verb : Verb) (name : List ℕ) (files : Option Files) (rest now : Option (List ℕ)) (shelf : Bool) →
      JournalOfVerb verb name files rest now shelf (out-of got got' k k' before) journal →
      JournalOfVerb verb name files rest now shelf (out-of got got' k k' after) journal
  verb-after (Run how) name files rest now true h = h
  verb-after (Run how) name files rest now false h =
      record { read = h.read; told = h.told; is = read-after how.concurrency.slots how.brief rest now h.read h.is }
  verb-after Check name files rest now shelf h = h

  command-after : (command : Command) (name : List ℕ) (files : Option Files) (rest now : Option (List ℕ)) (shelf : Bool) →
      JournalOf command name files rest now shelf (out-of got got' k k' before) journal →
      JournalOf command name files rest now shelf (out-of got got' k k' after) journal
  command-after (OnFile verb) name files rest now shelf h = verb-after verb name files rest now shelf h
  command-after (Generate text) name files rest now shelf h = h
  command-after (Bulk input concurrency) name files rest now shelf h =
      record { now = h.now; is = read-after concurrency.slots true (Some (records_text input.start input.events)) h.now (file_job options_text) h.is }

  pub journal-after : (words : List (List ℕ)) (files : Option Files) (rest now : Option (List ℕ)) (f f' : ℕ) →
      TellsJournal words files rest now f f' (out-of got got' k k' before) journal →
      TellsJournal words files rest now f f' (out-of got got' k k' after) journal
  journal-after words files rest now f f' told =
      record { shelf = told.shelf; count = told.count; is = record { by_words = by (command_of words) told.is.by_words } }
    where
      by : (o : Option Command) →
          MatchOption o (journal ≡ []) (λ it. JournalOf it (file_of words) files rest now told.shelf (out-of got got' k k' before) journal) →
          MatchOption o (journal ≡ []) (λ it. JournalOf it (file_of words) files rest now told.shelf (out-of got got' k k' after) journal)
      by None h = h
      by (Some it) h = command-after it (file_of words) files rest now told.shelf h

pub journal-final : (words : List (List ℕ)) (files : Option Files) (rest now got got' : Option (List ℕ)) (f f' k k' t t' : ℕ)
    (before after : Status) → Follows before after t t' → (journal journal' : List Entry) → journal' ≡ journal →
    TellsJournal words files rest now f f' (out-of got got' k k' before) journal → CanRise f' →
    IsJournalOf words files rest now (rose f f') (out-of got got' k k' after) journal'
journal-final words files rest now got got' f f' k k' t t' before after follows journal journal' e told below =
    subst (λ j. IsJournalOf words files rest now (rose f f') (out-of got got' k k' after) j) (sym e)
    (journal-told words files rest now got got' f f' k k' after journal
    (journal-after got got' k k' t t' before after follows journal words files rest now f f' told) below)

-- the journal that is written may come to be written

module _ (words : List (List ℕ)) (files : Option Files) (rest now got got' : Option (List ℕ)) (f f' k k' : ℕ) (ended : Status)
    (journal : List Entry) (is_whole : IsWhole ended) (some : journal ≢ []) where
  of-read : (how : How) → command_of words ≡ Some (OnFile (Run how)) → how.timeline ≡ true → (read : Result Job Stop) →
      IfSome (named_job (file_of words) files) (λ it. read ≡ it) →
      JournalOfRead how.concurrency.slots how.brief rest now (out-of got got' k k' ended) journal read → MayTrace words files rest journal
  of-read how is wanted (Err it) told h = absurd (some h)
  of-read how is wanted (Ok job) told h = by h.last refl (h.ends is_whole)
    where
      turned : (o : Option (Result Job Stop)) → IfSome o (λ it. Ok job ≡ it) → IfSome o (λ it. it ≡ Ok job)
      turned None e = tt
      turned (Some it) e = sym e

      by : (last : Option Last) → h.last ≡ last → IsSome last → MayTrace words files rest journal
      by None e is_some = absurd (let x = is_some in cc)
      by (Some last) e is_some = record {
        how = how;
        run = is;
        wanted = wanted;
        job = job;
        told = turned (named_job (file_of words) files) told;
        now = now;
        given = h.given;
        last = last;
        read = rw (← e) h.read;
        complete = complete-of job how.concurrency.slots h.given journal ended is_whole h.run;
      }

  of-command : (command : Option Command) → command_of words ≡ command → calls_trace command ≡ true → (shelf : Bool) →
      MatchOption command (journal ≡ []) (λ it. JournalOf it (file_of words) files rest now shelf (out-of got got' k k' ended) journal) →
      MayTrace words files rest journal
  of-command None is asked shelf h = absurd cc
  of-command (Some (Generate text)) is asked shelf h = absurd cc
  of-command (Some (Bulk input concurrency)) is asked shelf h = absurd cc
  of-command (Some (OnFile Check)) is asked shelf h = absurd cc
  of-command (Some (OnFile (Run how))) is asked true h = absurd (some h)
  of-command (Some (OnFile (Run how))) is asked false h = of-read how is asked h.read h.told h.is

  pub may-trace : calls_trace (command_of words) ≡ true →
      TellsJournal words files rest now f f' (out-of got got' k k' ended) journal → MayTrace words files rest journal
  may-trace asked told = of-command (command_of words) refl asked told.shelf told.is.by_words
