-- What a call came to, by what stopped it or what came of its job.
use Rattle.std.proofs.Common.{◌≡◌, ◌≢◌, ◌⊎◌, inl, inr, ℕ, nat_eq, Bool, true, false, List, [], ◌++◌, length, Option, Some, None, Result, Ok, Err, IfSome, if◌then◌else◌, refl, sym, ap, ◌∙◌}
use Rattle.std.specs.Io.KnownBytes.{Consumes}
use Rattle.event_records.proofs.Growing.{known-on}
use Rattle.hive_edge.specs.Shelf.{Files}
use Rattle.hive_model.specs.EventRecord.{EventRecord}
use Rattle.hive_model.specs.Job.{Job}
use Rattle.hive_model.specs.declared.entry.Entry.{Entry}
use Rattle.hive_pump.specs.Written.{AppendsPrefix, CanCome, IsWhole, MayWrite, results, text_of}
use Rattle.text_model.specs.Records.{Known, most_events, records_of, so_far}
use Rattle.text_model.specs.Whole.{Ending as Last, ReadToEnd, RefusedAt, SourceFailed, is_ok, tally}
use Rattle.text_model.specs.declared.record_refusal.RecordRefusal.{RecordRefusal}
use Rattle.hive_top.specs.Answer.{Answer, IsDue, IsDueOfFile, IsDueOfJob, IsDueOfVerb, bulk_answer, checked, file_job, generated, named_job, run_answer, status_of, stopped}
use Rattle.hive_top.specs.Called.{BearsOut, Called, CountsShelf, ReadsJob, Wrote}
use Rattle.hive_top.specs.RunsTo.{RunsTo}
use Rattle.hive_top.specs.Status.{IsOneOf}
use Rattle.hive_top.specs.Stopped.{status_at, text_at}
use Rattle.hive_top.specs.Words.{command_of, file_of}
use Rattle.hive_top.specs.declared.status.Status.{Status}
use Rattle.hive_top.specs.declared.status.Status.TheVariants as status
use Rattle.hive_top.specs.declared.stop.Stop.{Stop}
use Rattle.hive_top.specs.declared.stop.Stop.TheVariants as stop
use Rattle.hive_top.specs.declared.commands.Command.TheVariants.{OnFile, Generate, Bulk}
use Rattle.hive_top.specs.declared.commands.Concurrency.{Concurrency}
use Rattle.hive_top.specs.declared.commands.Generated.{Generated}
use Rattle.hive_top.specs.declared.commands.How.{How}
use Rattle.hive_top.specs.declared.commands.Input.{Input}
use Rattle.hive_top.specs.declared.commands.Verb.{Verb}
use Rattle.hive_top.specs.declared.commands.Verb.TheVariants.{Run, Check}
use Rattle.hive_gen.specs.OptionsText.{options_text}
use Rattle.hive_top.proofs.CameTo.{came-to, longer}

-- once a line was refused, more of the text says nothing new
stays : (job : Job) (text more : List ℕ) (refusal : RecordRefusal) → (so_far job text).refusal ≡ Some refusal →
    records_of job (text ++ more) ≡ so_far job text
stays job text more refusal e = (known-on true job.raws (most_events job) text more).refused refusal e

-- a refused line ends the text, however the input might have ended else
last-same : (job : Job) (brief : Bool) (refusal : RecordRefusal) (known : Known) → known.refusal ≡ Some refusal →
    run_answer job brief SourceFailed known ≡ run_answer job brief ReadToEnd known
last-same job brief refusal known is = rw is refl

module _ (words : List (List ℕ)) (files : Option Files) (rest : Option (List ℕ)) where
  -- the answer of wrong words
  pub due-words : (now : Option (List ℕ)) → command_of words ≡ None → IsDue words files rest now false false (stopped stop.Words)
  due-words now is = record { due = rw is refl }

  pub due-shelf : (now : Option (List ℕ)) (verb : Verb) (source : Bool) → command_of words ≡ Some (OnFile verb) →
      IsDue words files rest now true source (stopped stop.Shelf)
  due-shelf now verb source is = record { due = rw is refl }

  -- what is due of a file, by what its text was read to
  due-read : (now : Option (List ℕ)) (verb : Verb) (read : Result Job Stop) (source : Bool) (a : Answer) →
      command_of words ≡ Some (OnFile verb) → IfSome (named_job (file_of words) files) (λ it. read ≡ it) → IsDueOfFile verb rest now source read a →
      IsDue words files rest now false source a
  due-read now verb read source a is reads due = record { due = rw is (by (named_job (file_of words) files) reads) }
    where
      by : (o : Option (Result Job Stop)) → IfSome o (λ it. read ≡ it) → IfSome o (λ it. IsDueOfFile verb rest now source it a)
      by None h = tt
      by (Some it) h = rw (← h) due

  -- the answer of what stopped the call at the options
  pub due-stop : (now : Option (List ℕ)) (verb : Verb) (it : Stop) → command_of words ≡ Some (OnFile verb) →
      ReadsJob (named_job (file_of words) files) (Err it) → it ≢ stop.Shelf → it ≢ stop.NoMemory → IsDue words files rest now false false (stopped it)
  due-stop now verb stop.Shelf is reads a b = absurd (a refl)
  due-stop now verb stop.NoMemory is reads a b = absurd (b refl)
  due-stop now verb stop.Words is reads a b = due-read now verb (Err stop.Words) false _ is reads refl
  due-stop now verb stop.TooLong is reads a b = due-read now verb (Err stop.TooLong) false _ is reads refl
  due-stop now verb (stop.Options refusal) is reads a b = due-read now verb (Err (stop.Options refusal)) false _ is reads refl

  -- the answer of a job that was read
  pub due-job : (now : Option (List ℕ)) (how : How) (job : Job) (source : Bool) (a : Answer) → command_of words ≡ Some (OnFile (Run how)) →
      ReadsJob (named_job (file_of words) files) (Ok job) → IsDueOfJob rest now source job how.brief a → IsDue words files rest now false source a
  due-job now how job source a is reads due = due-read now (Run how) (Ok job) source a is reads due

  pub due-check : (now : Option (List ℕ)) (job : Job) → command_of words ≡ Some (OnFile Check) →
      ReadsJob (named_job (file_of words) files) (Ok job) → IsDue words files rest now false false (checked job)
  due-check now job is reads = due-read now Check (Ok job) false (checked job) is reads refl

  -- something is always due of a file
  pub some-due : (verb : Verb) → command_of words ≡ Some (OnFile verb) →
      (a : Answer) × IsDue words files rest rest false false a
  some-due verb is = by (named_job (file_of words) files) refl
    where
      nothing : Answer
      nothing = record { text = []; status = status.AllOk }

      of-rest : (job : Job) (brief : Bool) (o : Option (List ℕ)) →
          (a : Answer) × IfSome o (λ text. a ≡ run_answer job brief ReadToEnd (records_of job text))
      of-rest job brief None = (nothing, tt)
      of-rest job brief (Some text) = (run_answer job brief ReadToEnd (records_of job text), refl)

      of-verb : (v : Verb) (job : Job) → (a : Answer) × IsDueOfVerb v rest rest false job a
      of-verb (Run how) job = of-rest job how.brief rest
      of-verb Check job = (checked job, refl)

      of-read : (read : Result Job Stop) → (a : Answer) × IsDueOfFile verb rest rest false read a
      of-read (Ok job) = of-verb verb job
      of-read (Err it) = (stopped it, refl)

      by : (o : Option (Result Job Stop)) → named_job (file_of words) files ≡ o → (a : Answer) × IsDue words files rest rest false false a
      by None e = (nothing, record { due = rw (is, e) tt })
      by (Some read) e = let it = of-read read in (it.0, record { due = rw (is, e) it.1 })

  -- the line of what stopped the call may be written
  pub room-stop : (admits : List ℕ → Type 0) (front : (a b : List ℕ) → admits (a ++ b) → admits a)
      (room : (now : Option (List ℕ)) (shelf source : Bool) (a : Answer) → IsDue words files rest now shelf source a → admits a.text)
      (verb : Verb) (it : Stop) → command_of words ≡ Some (OnFile verb) → (it ≡ stop.Words → ⊥) →
      ReadsJob (named_job (file_of words) files) (Err it) → admits (text_at it)
  room-stop admits front room verb stop.Words is other reads = absurd (other refl)
  room-stop admits front room verb stop.Shelf is other reads =
      room rest true false (stopped stop.Shelf) (due-shelf rest verb false is)
  room-stop admits front room verb stop.TooLong is other reads =
      room rest false false (stopped stop.TooLong) (due-stop rest verb stop.TooLong is reads (λ e. cc) (λ e. cc))
  room-stop admits front room verb (stop.Options refusal) is other reads =
      room rest false false (stopped (stop.Options refusal)) (due-stop rest verb (stop.Options refusal) is reads (λ e. cc) (λ e. cc))
  room-stop admits front room verb stop.NoMemory is other reads =
      let it = some-due verb is in
      front [] it.0.text (room rest false false it.0 it.1)

  -- each text that the run may come to write is the text of an answer that may be due
  pub room-run : (admits : List ℕ → Type 0)
      (room : (now : Option (List ℕ)) (shelf source : Bool) (a : Answer) → IsDue words files rest now shelf source a → admits a.text)
      (how : How) (job : Job) → command_of words ≡ Some (OnFile (Run how)) → ReadsJob (named_job (file_of words) files) (Ok job) →
      (text : List ℕ) → MayWrite job how.brief rest text → admits text
  room-run admits room how job is reads text (inl (t, all, e)) =
      rw e (room rest false false (run_answer job how.brief ReadToEnd (records_of job t)) (due-job rest how job false _ is reads (by rest all)))
    where
      by : (o : Option (List ℕ)) → IsWhole o t → IfSome o (λ xs. run_answer job how.brief ReadToEnd (records_of job t) ≡ run_answer job how.brief ReadToEnd (records_of job xs))
      by None h = tt
      by (Some xs) h = rw h refl
  room-run admits room how job is reads text (inr (t, come, e)) = rw e (by (so_far job t).refusal refl)
    where
      left : (o : Option (List ℕ)) → CanCome o t → (now : Option (List ℕ)) × Consumes o now t
      left None h = (None, tt)
      left (Some xs) h = (Some h.0, h.1)

      refused : (refusal : RecordRefusal) → (so_far job t).refusal ≡ Some refusal → (o : Option (List ℕ)) → CanCome o t →
          IfSome o (λ xs. run_answer job how.brief SourceFailed (so_far job t) ≡ run_answer job how.brief ReadToEnd (records_of job xs))
      refused refusal is None h = tt
      refused refusal is (Some xs) h =
          let same : records_of job xs ≡ so_far job t = ap (records_of job) h.1 ∙ stays job t h.0 refusal is in
          let ends : run_answer job how.brief SourceFailed (so_far job t) ≡ run_answer job how.brief ReadToEnd (so_far job t) = last-same job how.brief refusal (so_far job t) is in
          ends ∙ ap (run_answer job how.brief ReadToEnd) (sym same)

      by : (o : Option RecordRefusal) → (so_far job t).refusal ≡ o → admits (text_of job how.brief SourceFailed (so_far job t))
      by None none =
          let now = left rest come in
          room now.0 false true (run_answer job how.brief SourceFailed (so_far job t)) (due-job now.0 how job true _ is reads (t, now.1, none, refl))
      by (Some refusal) some =
          room rest false false (run_answer job how.brief SourceFailed (so_far job t)) (due-job rest how job false _ is reads (refused refusal some rest come))

  -- a generated text, and the last line of a run of generated records
  pub due-text : (now : Option (List ℕ)) (text : Generated) → command_of words ≡ Some (Generate text) →
      IsDue words files rest now false false (generated text)
  due-text now text is = record { due = rw is refl }

  pub due-bulk : (now : Option (List ℕ)) (input : Input) (concurrency : Concurrency) → command_of words ≡ Some (Bulk input concurrency) →
      IsDue words files rest now false false (bulk_answer input (file_job options_text))
  due-bulk now input concurrency is = record { due = rw is refl }

module _ (words : List (List ℕ)) (files : Option Files) (rest got got' : Option (List ℕ)) (f f' s k k' : ℕ) where
  abbrev pub CalledHere : Status → Type 0
  CalledHere ended = Called words files rest rest got got' f f' s s k k' ended

  -- a call that ends with another status than that of its answer was broken off
  wrote-other : (ended : Status) (a : Answer) → Wrote ended got got' k k' a → (other : Status) → ended ≡ other → (a.status ≡ other → ⊥) →
      (status.Output ≡ other → ⊥) → (status.NoMemory ≡ other → ⊥) → ⊥
  wrote-other status.Output a wrote other e never out memory = out e
  wrote-other status.NoMemory a wrote other e never out memory = memory e
  wrote-other status.AllOk a wrote other e never out memory = never (sym wrote.1 ∙ e)
  wrote-other status.SomeNot a wrote other e never out memory = never (sym wrote.1 ∙ e)
  wrote-other status.Words a wrote other e never out memory = never (sym wrote.1 ∙ e)
  wrote-other status.Options a wrote other e never out memory = never (sym wrote.1 ∙ e)
  wrote-other status.Record a wrote other e never out memory = never (sym wrote.1 ∙ e)
  wrote-other status.Input a wrote other e never out memory = never (sym wrote.1 ∙ e)

  -- the source wasn't called, and this answer was due
  called-with : (ended : Status) (shelf : Bool) (a : Answer) → BearsOut shelf f f' → IsDue words files rest rest shelf false a →
      Wrote ended got got' k k' a → (ended ≡ status.Input → shelf ≡ true) → CalledHere ended
  called-with ended shelf a count due wrote input = record {
    shelf = shelf;
    source = false;
    shelf_count = count;
    source_count = refl;
    answer = a;
    due = due;
    wrote = wrote;
    input = λ e. inl (input e);
  }

  -- wrong words
  pub called-words : (ended : Status) → command_of words ≡ None → f' ≡ f → (ended ≡ status.Words) ⊎ (ended ≡ status.Output) →
      Wrote ended got got' k k' (stopped stop.Words) → CalledHere ended
  called-words ended is calm which wrote =
      called-with ended false (stopped stop.Words) calm (due-words words files rest rest is) wrote (λ e. absurd (by which e))
    where
      by : (ended ≡ status.Words) ⊎ (ended ≡ status.Output) → ended ≡ status.Input → ⊥
      by (inl a) e = let x = sym a ∙ e in cc
      by (inr a) e = let x = sym a ∙ e in cc

  -- what `check` says of a job
  pub called-check : (ended : Status) (job : Job) → command_of words ≡ Some (OnFile Check) →
      ReadsJob (named_job (file_of words) files) (Ok job) → f' ≡ f → Wrote ended got got' k k' (checked job) → CalledHere ended
  called-check ended job is reads calm wrote =
      called-with ended false (checked job) calm (due-check words files rest rest job is reads) wrote
      (λ e. absurd (wrote-other ended (checked job) wrote status.Input e (λ x. cc) (λ x. cc) (λ x. cc)))

  called-refused : (ended : Status) (verb : Verb) (it : Stop) → command_of words ≡ Some (OnFile verb) → it ≢ stop.Shelf →
      it ≢ stop.NoMemory → ReadsJob (named_job (file_of words) files) (Err it) → f' ≡ f → Wrote ended got got' k k' (stopped it) →
      (status_at it ≡ status.Input → ⊥) → CalledHere ended
  called-refused ended verb it is a b reads calm wrote other =
      called-with ended false (stopped it) calm (due-stop words files rest rest verb it is reads a b) wrote
      (λ e. absurd (wrote-other ended (stopped it) wrote status.Input e other (λ x. cc) (λ x. cc)))

  -- what stopped the call at the files or the options
  pub called-stop : (ended : Status) (verb : Verb) (it : Stop) → command_of words ≡ Some (OnFile verb) →
      (it ≡ stop.Words → ⊥) → ReadsJob (named_job (file_of words) files) (Err it) → CountsShelf (Err it) f f' → Wrote ended got got' k k' (stopped it) →
      IsOneOf ended (status_at it) → CalledHere ended
  called-stop ended verb stop.Words is other reads count wrote which = absurd (other refl)
  called-stop ended verb stop.Shelf is other reads count wrote which =
      called-with ended true (stopped stop.Shelf) count (due-shelf words files rest rest verb false is) wrote (λ e. refl)
  called-stop ended verb stop.TooLong is other reads count wrote which =
      called-refused ended verb stop.TooLong is (λ e. cc) (λ e. cc) reads count wrote (λ e. cc)
  called-stop ended verb (stop.Options refusal) is other reads count wrote which =
      called-refused ended verb (stop.Options refusal) is (λ e. cc) (λ e. cc) reads count wrote (λ e. cc)
  called-stop ended verb stop.NoMemory is other reads count wrote which = by which
    where
      it : (a : Answer) × IsDue words files rest rest false false a
      it = some-due words files rest verb is

      prefix : (now : Option (List ℕ)) → AppendsPrefix got now [] → AppendsPrefix got now it.0.text
      prefix now p = longer got now [] it.0.text it.0.text p refl

      moved : (w : Status) → w ≡ ended → (w ≡ status.Input → ⊥) → Wrote w got got' k k' it.0 → CalledHere ended
      moved w e not_input wrote = called-with ended false it.0 count it.1 (rw (← e) wrote) (λ x. absurd (not_input (e ∙ x)))

      broken : (ended ≡ status.NoMemory) → CalledHere ended
      broken e = let w = rw e at wrote in moved status.NoMemory (sym e) (λ x. cc) (prefix got' w.0, w.1)

      by : IsOneOf ended status.NoMemory → CalledHere ended
      by (inl e) = broken e
      by (inr (inl e)) = let w = rw e at wrote in moved status.Output (sym e) (λ x. cc) (prefix got' w.0, w.1)
      by (inr (inr e)) = broken e

  -- a generated text
  pub called-text : (ended : Status) (text : Generated) → command_of words ≡ Some (Generate text) → f' ≡ f →
      Wrote ended got got' k k' (generated text) → IsOneOf ended status.AllOk → CalledHere ended
  called-text ended text is calm wrote which =
      called-with ended false (generated text) calm (due-text words files rest rest text is) wrote (λ e. absurd (by which e))
    where
      by : IsOneOf ended status.AllOk → ended ≡ status.Input → ⊥
      by (inl a) e = let x = sym a ∙ e in cc
      by (inr (inl a)) e = let x = sym a ∙ e in cc
      by (inr (inr a)) e = let x = sym a ∙ e in cc

  -- a run of generated records
  pub called-bulk : (ended : Status) (input : Input) (concurrency : Concurrency) → command_of words ≡ Some (Bulk input concurrency) → f' ≡ f →
      Wrote ended got got' k k' (bulk_answer input (file_job options_text)) → ended ≢ status.Input → CalledHere ended
  called-bulk ended input concurrency is calm wrote never =
      called-with ended false (bulk_answer input (file_job options_text)) calm (due-bulk words files rest rest input concurrency is) wrote
      (λ e. absurd (never e))

-- what came of the run of a job
pub called-run : (words : List (List ℕ)) (files : Option Files) (rest now got got' : Option (List ℕ)) (f f' s s' k k' : ℕ) (how : How)
    (job : Job) → command_of words ≡ Some (OnFile (Run how)) → ReadsJob (named_job (file_of words) files) (Ok job) → f' ≡ f →
    (ended : Status) (journal : List Entry) →
    RunsTo job how.concurrency.slots how.brief rest now got got' s s' k k' ended journal →
    Called words files rest now got got' f f' s s' k k' ended
called-run words files rest now got got' f f' s s' k k' how job is reads same ended journal ran =
    let came = came-to job how.brief rest now got got' s s' k k' how.concurrency.slots ended journal ran in
    record {
      shelf = false;
      source = came.source;
      shelf_count = same;
      source_count = came.count;
      answer = came.answer;
      due = due-job words files rest now how job came.source came.answer is reads came.due;
      wrote = came.wrote;
      input = λ e. inr (came.input e);
    }

-- the run of a job doesn't end as wrong words do

no-words : (t : Bool) → status.Words ≡ (if t then status.AllOk else status.SomeNot) → ⊥
no-words true e = cc
no-words false e = cc

never-words : (job : Job) (given : List EventRecord) (end : Last) → status.Words ≡ status_of (results job given) end → ⊥
never-words job given ReadToEnd e = no-words (nat_eq (tally is_ok (results job given)) (length (results job given))) e
never-words job given (RefusedAt refusal) e = cc
never-words job given SourceFailed e = cc

pub ran-words : (job : Job) (slots : ℕ) (brief : Bool) (rest now got got' : Option (List ℕ)) (s s' k k' : ℕ) (ended : Status)
    (journal : List Entry) → RunsTo job slots brief rest now got got' s s' k k' ended journal → ended ≡ status.Words → ⊥
ran-words job slots brief rest now got got' s s' k k' ended journal ran e =
    let wrote = rw e at ran.wrote in
    never-words job ran.given wrote.0 wrote.2
