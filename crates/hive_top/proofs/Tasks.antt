-- What a call came to, by what there was to do.
use Rattle.std.proofs.Common.{◌≡◌, ◌≢◌, ◌⊎◌, inl, inr, ℕ, true, false, List, [], ◌++◌, Option, Some, None, Result, Ok, Err, IfSome, refl, sym, ap, subst, ◌∙◌}
use Rattle.std.specs.Arc.{arc_value}
use Rattle.std.specs.Prelude.{IsOk}
use Rattle.hive_edge.specs.Shelf.{Files}
use Rattle.hive_gen.specs.EventTexts.{records_text}
use Rattle.hive_gen.specs.OptionsText.{options_text}
use Rattle.hive_model.specs.Job.{Job}
use Rattle.hive_model.specs.declared.entry.Entry.{Entry}
use Rattle.hive_pump.specs.Pumped.{IsPumped}
use Rattle.hive_pump.specs.Written.{MayWrite}
use Rattle.hive_pump.specs.declared.ending.Ending.{Ending}
use Rattle.hive_pump.specs.declared.plan.Plan.{Plan}
use Rattle.report_text.specs.declared.counts.Counts.{Counts}
use Rattle.hive_top.proofs.Calls.{called-bulk, called-check, called-run, called-stop, called-text, called-words, due-bulk, due-check, due-text, due-words, ran-words, room-run, room-stop}
use Rattle.hive_top.proofs.Generating.{Pumped, bulk-input, bulk-journal, bulk-words, bulk-wrote, line-due, line-run, stop-journal, stop-room, stop-wrote}
use Rattle.hive_top.proofs.Journals.{journal-bulk, journal-check, journal-run, journal-stop, journal-text, journal-words}
use Rattle.hive_top.proofs.Runs.{run-of}
use Rattle.hive_top.specs.Answer.{bulk_answer, checked, file_job, generated, stopped}
use Rattle.hive_top.specs.Bulk.{WroteLine}
use Rattle.hive_top.specs.Called.{IsOfText, ReadsJob, Wrote}
use Rattle.hive_top.specs.Ran.{HasRoom, IsCalled}
use Rattle.hive_top.specs.RunsTo.{Flushes, RunsTo, status_by}
use Rattle.hive_top.specs.Status.{IsOneOf, IsWhole}
use Rattle.hive_top.specs.Stopped.{status_at, text_at}
use Rattle.hive_top.specs.Tasks.{CanTell, IsGeneratedTask, IsNoticeOf, IsRunTask, IsStopOf, told}
use Rattle.hive_top.specs.Words.{calls_files, command_of, file_of}
use Rattle.hive_top.specs.declared.commands.Command.{Command}
use Rattle.hive_top.specs.declared.commands.Command.TheVariants.{OnFile, Generate, Bulk}
use Rattle.hive_top.specs.declared.commands.Generated.{Generated}
use Rattle.hive_top.specs.declared.commands.Generated.TheVariants as generated_text
use Rattle.hive_top.specs.declared.commands.Verb.TheVariants.{Run, Check}
use Rattle.hive_top.specs.declared.status.Status.{Status}
use Rattle.hive_top.specs.declared.status.Status.TheVariants as status
use Rattle.hive_top.specs.declared.stop.Stop.{Stop}
use Rattle.hive_top.specs.declared.stop.Stop.TheVariants as stop
use Rattle.hive_top.specs.declared.task.GeneratedRun.{GeneratedRun}
use Rattle.hive_top.specs.declared.task.Notice.{Notice}
use Rattle.hive_top.specs.declared.task.Notice.TheVariants as notice

-- a job that was read may read the source
reads-on : (told : Option (Result Job Stop)) (job : Job) → ReadsJob told (Ok job) → IfSome told (λ it. IsOk it)
reads-on None job reads = tt
reads-on (Some it) job reads = subst (λ x. IsOk x) reads refl

-- a call that doesn't end as its answer says was broken off, so it doesn't end as wrong words do
not-words : (ended meant : Status) → IsOneOf ended meant → (meant ≡ status.Words → ⊥) → ended ≡ status.Words → ⊥
not-words ended meant (inl a) never e = never (sym a ∙ e)
not-words ended meant (inr (inl a)) never e = let x = sym a ∙ e in cc
not-words ended meant (inr (inr a)) never e = let x = sym a ∙ e in cc

-- what stops a call other than by wrong words has another status
stop-status : (it : Stop) → it ≢ stop.Words → status_at it ≡ status.Words → ⊥
stop-status stop.Words other e = other refl
stop-status stop.Shelf other e = cc
stop-status stop.TooLong other e = cc
stop-status (stop.Options refusal) other e = cc
stop-status stop.NoMemory other e = cc

text-not-words : (it : Stop) → IsOfText (Err it) → it ≢ stop.Words
text-not-words stop.Words h e = h
text-not-words stop.Shelf h e = h
text-not-words stop.TooLong h e = h
text-not-words (stop.Options refusal) h e = cc
text-not-words stop.NoMemory h e = cc

text-not-input : (it : Stop) → IsOfText (Err it) → status_at it ≡ status.Input → ⊥
text-not-input stop.Words h e = h
text-not-input stop.Shelf h e = h
text-not-input stop.TooLong h e = h
text-not-input (stop.Options refusal) h e = cc
text-not-input stop.NoMemory h e = cc

not-input : (ended meant : Status) → IsOneOf ended meant → (meant ≡ status.Input → ⊥) → ended ≡ status.Input → ⊥
not-input ended meant (inl a) never e = never (sym a ∙ e)
not-input ended meant (inr (inl a)) never e = let x = sym a ∙ e in cc
not-input ended meant (inr (inr a)) never e = let x = sym a ∙ e in cc

-- a notice is within its limits
pub can-tell : (asked : Option Command) (name : List ℕ) (files : Option Files) (f f' : ℕ) (it : Notice) →
    IsNoticeOf asked name files f f' it → CanTell it
can-tell asked name files f f' (notice.Job job) is = is.valid
can-tell asked name files f f' (notice.Generated text) is = is.within
can-tell asked name files f f' (notice.Stop it) is = tt

-- what may be written

module _ (words : List (List ℕ)) (files : Option Files) (rest : Option (List ℕ)) (admits : List ℕ → Type 0)
    (front : (a b : List ℕ) → admits (a ++ b) → admits a) (room : HasRoom words files rest admits)
    (asked : Option Command) (e : asked ≡ command_of words) (f f' : ℕ) where
  pub room-job : (job : Job) (plan : Plan) → IsRunTask asked (file_of words) files f f' job plan →
      (text : List ℕ) → MayWrite job plan.brief rest text → admits text
  room-job job plan t text may =
      room-run words files rest admits room t.how job (sym e ∙ t.is) t.read text
      (subst (λ (p : Plan). MayWrite job p.brief rest text) t.plan_is may)

  stop-of : (command : Option Command) (it : Stop) → command_of words ≡ command → IsStopOf command (file_of words) files f f' it →
      admits (text_at it)
  stop-of None it is (same, calm) = rw same (room rest false false (stopped stop.Words) (due-words words files rest rest is))
  stop-of (Some (OnFile verb)) it is (other, reads, count) =
      room-stop words files rest admits front room verb it is other reads
  stop-of (Some (Generate text)) it is h = absurd h
  stop-of (Some (Bulk input concurrency)) it is (reads, of_text, calm) =
      stop-room input admits front
      (room rest false false (bulk_answer input (file_job options_text)) (due-bulk words files rest rest input concurrency is))
      it reads of_text

  pub room-told : (it : Notice) → IsNoticeOf asked (file_of words) files f f' it → admits (told it).text
  room-told (notice.Job job) t = room rest false false (checked job) (due-check words files rest rest job (sym e ∙ t.is) t.read)
  room-told (notice.Generated text) t = room rest false false (generated text) (due-text words files rest rest text (sym e ∙ t.is))
  room-told (notice.Stop it) t = stop-of asked it (sym e) t

-- a run in memory

module _ (asked : Option Command) (f f' : ℕ) (it : GeneratedRun) (t : IsGeneratedTask asked f f' it) (now line : List ℕ)
    (m m' : ℕ) (ending : Ending) (counts : Counts) (pumped : List Entry)
    (p : IsPumped (arc_value it.job) it.plan.slots it.plan.brief (Some it.records.rest) (Some now) (Some it.line.got) (Some line) 0 0
    m m' ending counts pumped) where
  abbrev pub MadeText : List ℕ
  MadeText = records_text t.input.start t.input.events

  -- the run as the words ask for it
  as-asked : Pumped t.job t.concurrency.slots MadeText (Some now) line m m' counts pumped ending
  as-asked = by t.made.job_is t.made.plan_is t.made.records t.made.line p
    where
      by : {job : Job} {plan : Plan} {rest got : List ℕ} → job ≡ t.job → plan ≡ record { slots = t.concurrency.slots; workers = t.concurrency.workers; brief = true } →
          rest ≡ MadeText → got ≡ [] → IsPumped job plan.slots plan.brief (Some rest) (Some now) (Some got) (Some line) 0 0 m m' ending counts pumped →
          Pumped t.job t.concurrency.slots MadeText (Some now) line m m' counts pumped ending
      by a b c d h = rw (a, b, c, d) at h

  pub line-room : (words : List (List ℕ)) (files : Option Files) (rest : Option (List ℕ)) (admits : List ℕ → Type 0) →
      HasRoom words files rest admits → asked ≡ command_of words → (out : List ℕ) → out ≡ line →
      IsWhole (status_by ending counts) → admits out
  line-room words files rest admits room e out same is_whole =
      subst admits (sym (same ∙ line-due t.job t.concurrency.slots MadeText (Some now) line m m' counts pumped ending as-asked is_whole))
      (subst (λ read. admits (bulk_answer t.input read).text) (sym t.read)
      (room rest false false (bulk_answer t.input (file_job options_text)) (due-bulk words files rest rest t.input t.concurrency (sym e ∙ t.is))))

  pub ran-in-memory : (got got' : Option (List ℕ)) (k k' : ℕ) (out : List ℕ) → out ≡ line → (ended : Status) →
      WroteLine out (status_by ending counts) ended got got' k k' →
      RunsTo t.job t.concurrency.slots true (Some MadeText) (Some now) got got' 0 0 k k' ended pumped
  ran-in-memory got got' k k' out same ended w =
      line-run t.job t.concurrency.slots MadeText (Some now) line m m' counts pumped got got' k k' ending ended as-asked
      (subst (λ x. WroteLine x (status_by ending counts) ended got got' k k') same w)

-- what the call came to

module _ {F S K : Type 0} (files_of : F → Option Files) (shelf_faults : F → ℕ) (rest_of : S → Option (List ℕ)) (source_faults : S → ℕ)
    (got_of : K → Option (List ℕ)) (sink_faults : K → ℕ) (words : List (List ℕ)) (shelf shelf' : F) (source : S) (sink sink' : K)
    (asked : Option Command) (e : asked ≡ command_of words) (kept : calls_files asked ≡ false → shelf' ≡ shelf) where
  abbrev pub Came : S → Status → List Entry → Type 0
  Came source' ended entries =
      IsCalled files_of shelf_faults rest_of source_faults got_of sink_faults words shelf shelf' source source' sink sink' ended entries

  untouched : calls_files (command_of words) ≡ false → shelf' ≡ shelf
  untouched none = kept (ap calls_files e ∙ none)

  pub came-run : (source' : S) (mid : K) (job : Job) (plan : Plan) →
      IsRunTask asked (file_of words) (files_of shelf) (shelf_faults shelf) (shelf_faults shelf') job plan → (ending : Ending)
      (counts : Counts) (pumped : List Entry) → IsPumped job plan.slots plan.brief (rest_of source) (rest_of source') (got_of sink) (got_of mid)
      (source_faults source) (source_faults source') (sink_faults sink) (sink_faults mid) ending counts pumped → (ended : Status) →
      Flushes (got_of mid) (got_of sink') (sink_faults mid) (sink_faults sink') (status_by ending counts) ended → (entries : List Entry) →
      entries ≡ pumped → Came source' ended entries
  came-run source' mid job plan t ending counts pumped p ended flushes entries same =
      subst (λ l. Came source' ended l) (sym same) (record {
        came = called-run words (files_of shelf) (rest_of source) (rest_of source') (got_of sink) (got_of sink')
            (shelf_faults shelf) (shelf_faults shelf') (source_faults source) (source_faults source') (sink_faults sink) (sink_faults sink')
            t.how job is t.read t.fetched ended pumped ran;
        journal = journal-run words (files_of shelf) (rest_of source) (rest_of source') (got_of sink) (got_of sink')
            (shelf_faults shelf) (shelf_faults shelf') (sink_faults sink) (sink_faults sink') ended pumped
            t.how job (source_faults source) (source_faults source') is t.read t.fetched ran;
        words = λ x. absurd (ran-words job t.how.concurrency.slots t.how.brief _ _ _ _ _ _ _ _ ended pumped ran x);
        wrong_words = λ none. absurd (let y = sym none ∙ is in cc);
        untouched_files = untouched;
        untouched_source = inr (record { how = t.how; run = is; fetched = t.fetched; read = reads-on _ job t.read });
      })
    where
      is : command_of words ≡ Some (OnFile (Run t.how))
      is = sym e ∙ t.is

      ran : RunsTo job t.how.concurrency.slots t.how.brief (rest_of source) (rest_of source') (got_of sink) (got_of sink')
          (source_faults source) (source_faults source') (sink_faults sink) (sink_faults sink') ended pumped
      ran =
          run-of job t.how.concurrency.slots t.how.brief (rest_of source) (rest_of source') (got_of sink) (got_of mid) (got_of sink')
          (source_faults source) (source_faults source') (sink_faults sink) (sink_faults mid) (sink_faults sink') ending counts pumped ended
          (subst (λ (x : Plan). IsPumped job x.slots x.brief (rest_of source) (rest_of source') (got_of sink) (got_of mid)
          (source_faults source) (source_faults source') (sink_faults sink) (sink_faults mid) ending counts pumped) t.plan_is p) flushes

  pub came-generated : (it : GeneratedRun) (t : IsGeneratedTask asked (shelf_faults shelf) (shelf_faults shelf') it) (now line : List ℕ)
      (m m' : ℕ) (ending : Ending) (counts : Counts) (pumped : List Entry) → IsPumped (arc_value it.job) it.plan.slots it.plan.brief
      (Some it.records.rest) (Some now) (Some it.line.got) (Some line) 0 0 m m' ending counts pumped → (out : List ℕ) → out ≡ line →
      (ended : Status) → WroteLine out (status_by ending counts) ended (got_of sink) (got_of sink') (sink_faults sink) (sink_faults sink') →
      (entries : List Entry) → entries ≡ pumped → Came source ended entries
  came-generated it t now line m m' ending counts pumped p out same ended w entries e' =
      subst (λ l. Came source ended l) (sym e') (record {
        came = called-bulk words (files_of shelf) (rest_of source) (got_of sink) (got_of sink') (shelf_faults shelf) (shelf_faults shelf')
            (source_faults source) (sink_faults sink) (sink_faults sink') ended t.input t.concurrency is t.calm
            (bulk-wrote t.input t.concurrency.slots (got_of sink) (got_of sink') (sink_faults sink) (sink_faults sink') ended pumped
            t.job (Some now) t.read ran)
            (bulk-input t.input t.concurrency.slots (got_of sink) (got_of sink') (sink_faults sink) (sink_faults sink') ended pumped
            t.job (Some now) t.read ran);
        journal = journal-bulk words (files_of shelf) (rest_of source) (rest_of source) (got_of sink) (got_of sink')
            (shelf_faults shelf) (shelf_faults shelf') (sink_faults sink) (sink_faults sink') ended pumped t.input t.concurrency is t.calm
            (bulk-journal t.input t.concurrency.slots (got_of sink) (got_of sink') (sink_faults sink) (sink_faults sink') ended pumped
            t.job (Some now) t.read ran);
        words = λ x. absurd (bulk-words t.input t.concurrency.slots (got_of sink) (got_of sink') (sink_faults sink) (sink_faults sink')
            ended pumped t.job (Some now) t.read ran x);
        wrong_words = λ none. absurd (let y = sym none ∙ is in cc);
        untouched_files = untouched;
        untouched_source = inl refl;
      })
    where
      is : command_of words ≡ Some (Bulk t.input t.concurrency)
      is = sym e ∙ t.is

      ran : RunsTo t.job t.concurrency.slots true (Some (records_text t.input.start t.input.events)) (Some now) (got_of sink) (got_of sink')
          0 0 (sink_faults sink) (sink_faults sink') ended pumped
      ran =
          ran-in-memory asked (shelf_faults shelf) (shelf_faults shelf') it t now line m m' ending counts pumped p
          (got_of sink) (got_of sink') (sink_faults sink) (sink_faults sink') out same ended w

  -- a notice was written, without a run

  stopped-so : (command : Option Command) (it : Stop) (ended : Status) → command_of words ≡ command →
      IsStopOf command (file_of words) (files_of shelf) (shelf_faults shelf) (shelf_faults shelf') it →
      Wrote ended (got_of sink) (got_of sink') (sink_faults sink) (sink_faults sink') (stopped it) → IsOneOf ended (status_at it) →
      (it ≡ stop.NoMemory → (ended ≡ status.NoMemory) × (sink' ≡ sink)) →
      (it ≡ stop.Words → (ended ≡ status.Words) ⊎ (ended ≡ status.Output)) → Came source ended []
  stopped-so None it ended is (same, calm) wrote which memory wrong = record {
    came = called-words words (files_of shelf) (rest_of source) (got_of sink) (got_of sink') (shelf_faults shelf) (shelf_faults shelf')
        (source_faults source) (sink_faults sink) (sink_faults sink') ended is calm (wrong same)
        (subst (λ x. Wrote ended (got_of sink) (got_of sink') (sink_faults sink) (sink_faults sink') (stopped x)) same wrote);
    journal = journal-words words (files_of shelf) (rest_of source) (rest_of source) (got_of sink) (got_of sink')
        (shelf_faults shelf) (shelf_faults shelf') (sink_faults sink) (sink_faults sink') ended [] is calm refl;
    words = λ x. is;
    wrong_words = λ x. wrong same;
    untouched_files = untouched;
    untouched_source = inl refl;
  }
  stopped-so (Some (OnFile verb)) it ended is (other, reads, count) wrote which memory wrong = record {
    came = called-stop words (files_of shelf) (rest_of source) (got_of sink) (got_of sink') (shelf_faults shelf) (shelf_faults shelf')
        (source_faults source) (sink_faults sink) (sink_faults sink') ended verb it is other reads count wrote which;
    journal = journal-stop words (files_of shelf) (rest_of source) (got_of sink) (got_of sink')
        (shelf_faults shelf) (shelf_faults shelf') (sink_faults sink) (sink_faults sink') ended [] refl verb it is reads count
        (λ x. ((memory x).0, ap got_of (memory x).1));
    words = λ x. absurd (not-words ended (status_at it) which (stop-status it other) x);
    wrong_words = λ none. absurd (let y = sym none ∙ is in cc);
    untouched_files = untouched;
    untouched_source = inl refl;
  }
  stopped-so (Some (Generate text)) it ended is h wrote which memory wrong = absurd h
  stopped-so (Some (Bulk input concurrency)) it ended is (reads, of_text, calm) wrote which memory wrong = record {
    came = called-bulk words (files_of shelf) (rest_of source) (got_of sink) (got_of sink') (shelf_faults shelf) (shelf_faults shelf')
        (source_faults source) (sink_faults sink) (sink_faults sink') ended input concurrency is calm
        (stop-wrote input concurrency.slots (got_of sink) (got_of sink') (sink_faults sink) (sink_faults sink') ended [] it reads of_text
        (λ x. ((memory x).0, ap got_of (memory x).1, ap sink_faults (memory x).1)) wrote)
        (not-input ended (status_at it) which (text-not-input it of_text));
    journal = journal-bulk words (files_of shelf) (rest_of source) (rest_of source) (got_of sink) (got_of sink')
        (shelf_faults shelf) (shelf_faults shelf') (sink_faults sink) (sink_faults sink') ended [] input concurrency is calm
        (stop-journal input concurrency.slots (got_of sink) (got_of sink') (sink_faults sink) (sink_faults sink') ended [] it reads of_text
        (λ x. ((memory x).0, ap got_of (memory x).1, ap sink_faults (memory x).1)) refl);
    words = λ x. absurd (not-words ended (status_at it) which (stop-status it (text-not-words it of_text)) x);
    wrong_words = λ none. absurd (let y = sym none ∙ is in cc);
    untouched_files = untouched;
    untouched_source = inl refl;
  }

  told-so : (it : Notice) (ended : Status) →
      IsNoticeOf asked (file_of words) (files_of shelf) (shelf_faults shelf) (shelf_faults shelf') it →
      Wrote ended (got_of sink) (got_of sink') (sink_faults sink) (sink_faults sink') (told it) → IsOneOf ended (told it).status →
      (it ≡ notice.Stop stop.NoMemory → (ended ≡ status.NoMemory) × (sink' ≡ sink)) →
      (it ≡ notice.Stop stop.Words → (ended ≡ status.Words) ⊎ (ended ≡ status.Output)) → Came source ended []
  told-so (notice.Job job) ended t wrote which memory wrong =
      let is : command_of words ≡ Some (OnFile Check) = sym e ∙ t.is in
      record {
        came = called-check words (files_of shelf) (rest_of source) (got_of sink) (got_of sink') (shelf_faults shelf) (shelf_faults shelf')
            (source_faults source) (sink_faults sink) (sink_faults sink') ended job is t.read t.fetched wrote;
        journal = journal-check words (files_of shelf) (rest_of source) (rest_of source) (got_of sink) (got_of sink')
            (shelf_faults shelf) (shelf_faults shelf') (sink_faults sink) (sink_faults sink') ended [] is t.fetched refl;
        words = λ x. absurd (not-words ended status.AllOk which (λ y. cc) x);
        wrong_words = λ none. absurd (let y = sym none ∙ is in cc);
        untouched_files = untouched;
        untouched_source = inl refl;
      }
  told-so (notice.Generated text) ended t wrote which memory wrong =
      let is : command_of words ≡ Some (Generate text) = sym e ∙ t.is in
      record {
        came = called-text words (files_of shelf) (rest_of source) (got_of sink) (got_of sink') (shelf_faults shelf) (shelf_faults shelf')
            (source_faults source) (sink_faults sink) (sink_faults sink') ended text is t.calm wrote (of-text text which);
        journal = journal-text words (files_of shelf) (rest_of source) (rest_of source) (got_of sink) (got_of sink')
            (shelf_faults shelf) (shelf_faults shelf') (sink_faults sink) (sink_faults sink') ended [] text is t.calm refl;
        words = λ x. absurd (not-words ended status.AllOk (of-text text which) (λ y. cc) x);
        wrong_words = λ none. absurd (let y = sym none ∙ is in cc);
        untouched_files = untouched;
        untouched_source = inl refl;
      }
    where
      of-text : (it : Generated) → IsOneOf ended (generated it).status → IsOneOf ended status.AllOk
      of-text generated_text.Options h = h
      of-text (generated_text.Records input) h = h
  told-so (notice.Stop it) ended t wrote which memory wrong =
      stopped-so asked it ended (sym e) t wrote which (λ x. memory (ap notice.Stop x)) (λ x. wrong (ap notice.Stop x))

  pub came-told : (it : Notice) (said ended : Status) (entries : List Entry) →
      IsNoticeOf asked (file_of words) (files_of shelf) (shelf_faults shelf) (shelf_faults shelf') it →
      Wrote said (got_of sink) (got_of sink') (sink_faults sink) (sink_faults sink') (told it) → IsOneOf said (told it).status →
      (it ≡ notice.Stop stop.NoMemory → (said ≡ status.NoMemory) × (sink' ≡ sink)) →
      (it ≡ notice.Stop stop.Words → (said ≡ status.Words) ⊎ (said ≡ status.Output)) → ended ≡ said → entries ≡ [] →
      Came source ended entries
  came-told it said ended entries t wrote which memory wrong a b =
      subst (λ x. Came source x entries) (sym a)
      (subst (λ l. Came source said l) (sym b) (told-so it said t wrote which memory wrong))
