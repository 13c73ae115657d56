-- The journal that a call hands out, by what came of its words, its files and its job.
use Rattle.std.proofs.Common.{◌≡◌, ◌≢◌, ℕ, Bool, true, false, List, [], Option, Some, None, Result, Ok, Err, IfSome, refl, sym, subst}
use Rattle.std.proofs.KnownBytes.{Appends-nil}
use Rattle.std.specs.Prelude.{IsSome}
use Rattle.hive_edge.specs.Fault.{Calm}
use Rattle.hive_edge.specs.Shelf.{Files}
use Rattle.hive_model.specs.EventRecord.{EventRecord}
use Rattle.hive_model.specs.Job.{Job}
use Rattle.hive_model.specs.declared.entry.Entry.{Entry}
use Rattle.hive_pump.proofs.Stopping.{read-nothing}
use Rattle.hive_pump.specs.Written.{AppendsPrefix, written}
use Rattle.text_model.specs.Whole.{Ending as Last}
use Rattle.hive_top.proofs.DueLaws.{not-calm, prefix-whole, rose-is}
use Rattle.hive_top.proofs.Runs.{empty-run}
use Rattle.hive_top.specs.Answer.{CanRise, named_job, rose}
use Rattle.hive_top.specs.Called.{CountsShelf, ReadsJob}
use Rattle.hive_top.specs.Journals.{HasRun, IsJournalOf, JournalOfBulk, JournalOfFile, JournalOfRead, Output, TellsJournal}
use Rattle.hive_top.specs.RunsTo.{RunsTo, WroteRun}
use Rattle.hive_top.specs.Status.{IsWhole}
use Rattle.hive_top.specs.Words.{command_of, file_of}
use Rattle.hive_top.specs.declared.commands.Command.TheVariants.{OnFile, Generate, Bulk}
use Rattle.hive_top.specs.declared.commands.Concurrency.{Concurrency}
use Rattle.hive_top.specs.declared.commands.Generated.{Generated}
use Rattle.hive_top.specs.declared.commands.How.{How}
use Rattle.hive_top.specs.declared.commands.Input.{Input}
use Rattle.hive_top.specs.declared.commands.Verb.{Verb}
use Rattle.hive_top.specs.declared.commands.Verb.TheVariants.{Run, Check}
use Rattle.hive_top.specs.declared.status.Status.{Status}
use Rattle.hive_top.specs.declared.status.Status.TheVariants as status
use Rattle.hive_top.specs.declared.stop.Stop.{Stop}
use Rattle.hive_top.specs.declared.stop.Stop.TheVariants as stop

-- what a run was written of

has-last : (got got' : Option (List ℕ)) (k k' : ℕ) (job : Job) (brief : Bool) (given : List EventRecord) (last : Option Last)
    (ended : Status) → WroteRun ended got got' k k' job brief given last → IsWhole ended → IsSome last
has-last got got' k k' job brief given last status.Output w h = absurd h
has-last got got' k k' job brief given last status.NoMemory w h = absurd h
has-last got got' k k' job brief given last status.AllOk w h = subst IsSome (sym w.1) refl
has-last got got' k k' job brief given last status.SomeNot w h = subst IsSome (sym w.1) refl
has-last got got' k k' job brief given last status.Words w h = subst IsSome (sym w.1) refl
has-last got got' k k' job brief given last status.Options w h = subst IsSome (sym w.1) refl
has-last got got' k k' job brief given last status.Record w h = subst IsSome (sym w.1) refl
has-last got got' k k' job brief given last status.Input w h = subst IsSome (sym w.1) refl

-- a count that is as before didn't rise, unless it stands at its last value
has-last-calm : (got got' : Option (List ℕ)) (k k' : ℕ) (job : Job) (brief : Bool) (given : List EventRecord) (last : Option Last)
    (ended : Status) → WroteRun ended got got' k k' job brief given last → ended ≢ status.NoMemory → Calm k k' → IsSome last
has-last-calm got got' k k' job brief given last status.Output w enough calm = absurd (not-calm k k' w.1 calm)
has-last-calm got got' k k' job brief given last status.NoMemory w enough calm = absurd (enough refl)
has-last-calm got got' k k' job brief given last status.AllOk w enough calm = subst IsSome (sym w.1) refl
has-last-calm got got' k k' job brief given last status.SomeNot w enough calm = subst IsSome (sym w.1) refl
has-last-calm got got' k k' job brief given last status.Words w enough calm = subst IsSome (sym w.1) refl
has-last-calm got got' k k' job brief given last status.Options w enough calm = subst IsSome (sym w.1) refl
has-last-calm got got' k k' job brief given last status.Record w enough calm = subst IsSome (sym w.1) refl
has-last-calm got got' k k' job brief given last status.Input w enough calm = subst IsSome (sym w.1) refl

prefix-of-run : (got got' : Option (List ℕ)) (k k' : ℕ) (job : Job) (brief : Bool) (given : List EventRecord) (last : Option Last)
    (ended : Status) → WroteRun ended got got' k k' job brief given last →
    AppendsPrefix got got' (written job brief given last)
prefix-of-run got got' k k' job brief given last status.Output w = w.0
prefix-of-run got got' k k' job brief given last status.NoMemory w = w.0
prefix-of-run got got' k k' job brief given last status.AllOk w = prefix-whole got got' (written job brief given last) w.3
prefix-of-run got got' k k' job brief given last status.SomeNot w = prefix-whole got got' (written job brief given last) w.3
prefix-of-run got got' k k' job brief given last status.Words w = prefix-whole got got' (written job brief given last) w.3
prefix-of-run got got' k k' job brief given last status.Options w = prefix-whole got got' (written job brief given last) w.3
prefix-of-run got got' k k' job brief given last status.Record w = prefix-whole got got' (written job brief given last) w.3
prefix-of-run got got' k k' job brief given last status.Input w = prefix-whole got got' (written job brief given last) w.3

abbrev pub out-of : Option (List ℕ) → Option (List ℕ) → ℕ → ℕ → Status → Output
out-of got got' k k' ended = record { got = got; got_now = got'; count = k; count_now = k'; ended = ended }

pub has-run : (job : Job) (slots : ℕ) (brief : Bool) (rest now got got' : Option (List ℕ)) (s s' k k' : ℕ) (ended : Status)
    (journal : List Entry) → RunsTo job slots brief rest now got got' s s' k k' ended journal →
    HasRun job slots brief rest now (out-of got got' k k' ended) journal
has-run job slots brief rest now got got' s s' k k' ended journal ran = record {
  given = ran.given;
  last = ran.last;
  read = ran.read;
  ends = has-last got got' k k' job brief ran.given ran.last ended ran.wrote;
  ends_calm = has-last-calm got got' k k' job brief ran.given ran.last ended ran.wrote;
  bytes = prefix-of-run got got' k k' job brief ran.given ran.last ended ran.wrote;
  run = ran.run;
}

-- memory ran out before anything was done with the job
unbegun : (job : Job) (slots : ℕ) (brief : Bool) (rest got : Option (List ℕ)) (k k' : ℕ) (journal : List Entry) →
    journal ≡ [] → HasRun job slots brief rest rest (out-of got got k k' status.NoMemory) journal
unbegun job slots brief rest got k k' journal empty = record {
  given = [];
  last = None;
  read = read-nothing job rest;
  ends = λ h. absurd h;
  ends_calm = λ enough calm. absurd (enough refl);
  bytes = record { front = []; back = written job brief [] None; whole = refl; bytes = Appends-nil got };
  run = empty-run job slots journal empty;
}

-- memory ran out at the options: whatever they are, nothing was run of them
pub want : (slots : ℕ) (brief : Bool) (rest got got' : Option (List ℕ)) (k k' : ℕ) (ended : Status) (journal : List Entry) →
    journal ≡ [] → ended ≡ status.NoMemory → got' ≡ got → (read : Result Job Stop) →
    JournalOfRead slots brief rest rest (out-of got got' k k' ended) journal read
want slots brief rest got got' k k' ended journal empty e same (Err it) = empty
want slots brief rest got got' k k' ended journal empty e same (Ok job) =
    rw (e, same) (unbegun job slots brief rest got k k' journal empty)

module _ (words : List (List ℕ)) (files : Option Files) (rest now got got' : Option (List ℕ)) (f f' k k' : ℕ)
    (ended : Status) (journal : List Entry) where
  abbrev pub Tells : Type 0
  Tells = TellsJournal words files rest now f f' (out-of got got' k k' ended) journal

  pub journal-words : command_of words ≡ None → f' ≡ f → journal ≡ [] → Tells
  journal-words is calm empty = record { shelf = false; count = calm; is = record { by_words = rw is empty } }

  pub journal-text : (text : Generated) → command_of words ≡ Some (Generate text) → f' ≡ f → journal ≡ [] → Tells
  journal-text text is calm empty = record { shelf = false; count = calm; is = record { by_words = rw is empty } }

  pub journal-bulk : (input : Input) (concurrency : Concurrency) → command_of words ≡ Some (Bulk input concurrency) → f' ≡ f →
      JournalOfBulk input concurrency.slots (out-of got got' k k' ended) journal → Tells
  journal-bulk input concurrency is calm ran = record { shelf = false; count = calm; is = record { by_words = rw is ran } }

  pub journal-check : command_of words ≡ Some (OnFile Check) → f' ≡ f → journal ≡ [] → Tells
  journal-check is calm empty = record { shelf = false; count = calm; is = record { by_words = rw is empty } }

  pub journal-run : (how : How) (job : Job) (s s' : ℕ) → command_of words ≡ Some (OnFile (Run how)) →
      ReadsJob (named_job (file_of words) files) (Ok job) → f' ≡ f →
      RunsTo job how.concurrency.slots how.brief rest now got got' s s' k k' ended journal → Tells
  journal-run how job s s' is reads calm ran = record {
    shelf = false;
    count = calm;
    is = record {
      by_words = rw is (record {
        read = Ok job;
        told = reads;
        is = has-run job how.concurrency.slots how.brief rest now got got' s s' k k' ended journal ran;
      });
    };
  }

  pub journal-told : Tells → CanRise f' → IsJournalOf words files rest now (rose f f') (out-of got got' k k' ended) journal
  journal-told t below =
      subst (λ b. IsJournalOf words files rest now b (out-of got got' k k' ended) journal) (sym (rose-is t.shelf f f' t.count below)) t.is

module _ (words : List (List ℕ)) (files : Option Files) (rest got got' : Option (List ℕ)) (f f' k k' : ℕ)
    (ended : Status) (journal : List Entry) (empty : journal ≡ []) where
  abbrev pub TellsHere : Type 0
  TellsHere = TellsJournal words files rest rest f f' (out-of got got' k k' ended) journal

  -- what stopped the call at the options
  read-to : (slots : ℕ) (brief : Bool) (it : Stop) → IfSome (named_job (file_of words) files) (λ x. Err it ≡ x) →
      JournalOfFile slots brief (file_of words) files rest rest (out-of got got' k k' ended) journal
  read-to slots brief it told = record { read = Err it; told = told; is = empty }

  want-file : (slots : ℕ) (brief : Bool) → ended ≡ status.NoMemory → got' ≡ got →
      JournalOfFile slots brief (file_of words) files rest rest (out-of got got' k k' ended) journal
  want-file slots brief e same = by (named_job (file_of words) files) refl
    where
      by : (o : Option (Result Job Stop)) → named_job (file_of words) files ≡ o →
          JournalOfFile slots brief (file_of words) files rest rest (out-of got got' k k' ended) journal
      by None is = record { read = Err stop.NoMemory; told = rw is tt; is = empty }
      by (Some it) is = record {
        read = it;
        told = rw is refl;
        is = want slots brief rest got got' k k' ended journal empty e same it;
      }

  pub journal-stop : (verb : Verb) (it : Stop) → command_of words ≡ Some (OnFile verb) →
      ReadsJob (named_job (file_of words) files) (Err it) → CountsShelf (Err it) f f' →
      (it ≡ stop.NoMemory → (ended ≡ status.NoMemory) × (got' ≡ got)) → TellsHere
  journal-stop Check stop.Shelf is reads count memory =
      record { shelf = true; count = count; is = record { by_words = rw is empty } }
  journal-stop Check stop.Words is reads count memory =
      record { shelf = false; count = count; is = record { by_words = rw is empty } }
  journal-stop Check stop.TooLong is reads count memory =
      record { shelf = false; count = count; is = record { by_words = rw is empty } }
  journal-stop Check (stop.Options refusal) is reads count memory =
      record { shelf = false; count = count; is = record { by_words = rw is empty } }
  journal-stop Check stop.NoMemory is reads count memory =
      record { shelf = false; count = count; is = record { by_words = rw is empty } }
  journal-stop (Run how) stop.Shelf is reads count memory =
      record { shelf = true; count = count; is = record { by_words = rw is empty } }
  journal-stop (Run how) stop.Words is reads count memory =
      record { shelf = false; count = count; is = record { by_words = rw is (read-to how.concurrency.slots how.brief stop.Words reads) } }
  journal-stop (Run how) stop.TooLong is reads count memory =
      record { shelf = false; count = count; is = record { by_words = rw is (read-to how.concurrency.slots how.brief stop.TooLong reads) } }
  journal-stop (Run how) (stop.Options refusal) is reads count memory =
      record {
        shelf = false;
        count = count;
        is = record { by_words = rw is (read-to how.concurrency.slots how.brief (stop.Options refusal) reads) };
      }
  journal-stop (Run how) stop.NoMemory is reads count memory =
      let m = memory refl in
      record { shelf = false; count = count; is = record { by_words = rw is (want-file how.concurrency.slots how.brief m.0 m.1) } }
