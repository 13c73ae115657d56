-- What is due where nothing is refused, and on what it doesn't depend.
use Rattle.std.proofs.Common.{◌≡◌, inl, inr, ℕ, zero, suc, ◌+◌, ◌-◌, ◌/◌, ◌≤◌, nat_eq, nat_le, Bool, true, false, if◌then◌else◌, List, [], ◌∷◌, length, map, Option, Some, None, Result, Ok, Err, IfSome, refl, sym, ap, subst, ◌∙◌}
use Rattle.std.specs.Option.{option_map_or}
use Rattle.gen_laws.specs.GeneratedJob.{generated_job}
use Rattle.gen_laws.specs.Results.{results_of}
use Rattle.hive_edge.specs.Shelf.{Files}
use Rattle.hive_gen.specs.EventTexts.{records_text}
use Rattle.hive_gen.specs.Events.{events_from, events_of, state_behind}
use Rattle.hive_gen.specs.OptionsText.{options_text}
use Rattle.hive_model.specs.EventResult.{EventResult}
use Rattle.hive_model.specs.Job.{Job}
use Rattle.hive_pump.specs.Written.{results}
use Rattle.job_options.specs.Known.{known_language}
use Rattle.text_model.specs.Jobs.{job_of}
use Rattle.text_model.specs.Records.{records_of}
use Rattle.text_model.specs.Whole.{ReadToEnd, RefusedAt, done_line, is_failed, is_ok, is_stalled, tally, whole}
use Rattle.text_model.specs.declared.limits.TheConstants.{MOST_OPTIONS_BYTES}
use Rattle.text_model.specs.declared.record_refusal.RecordRefusal.{RecordRefusal}
use Rattle.hive_top.specs.Answer.{Answer, IsDue, IsDueOfFile, IsDueOfName, bulk_answer, file_job, named_job, run_answer, status_of}
use Rattle.top_laws.specs.Complete.{IsEnd, counted_answer, failed_of, ok_of, stalled_of}
use Rattle.hive_top.specs.Words.{command_of, file_of}
use Rattle.hive_top.specs.declared.commands.Command.TheVariants.{OnFile, Bulk}
use Rattle.hive_top.specs.declared.commands.Concurrency.{Concurrency}
use Rattle.hive_top.specs.declared.commands.How.{How}
use Rattle.hive_top.specs.declared.commands.Input.{Input}
use Rattle.hive_top.specs.declared.commands.Verb.TheVariants.{Run}
use Rattle.hive_top.specs.declared.status.Status.{Status}
use Rattle.hive_top.specs.declared.status.Status.TheVariants as status
use Rattle.hive_top.specs.declared.stop.Stop.{Stop}
use Rattle.hive_top.specs.declared.stop.Stop.TheVariants as stop

-- generated options are within their limit
few-options : nat_le (length options_text) MOST_OPTIONS_BYTES ≡ true
unfolding options_text
few-options = refl

options-job : job_of known_language options_text ≡ Ok generated_job → file_job options_text ≡ Ok generated_job
unfolding file_job
options-job e = rw (few-options, e) refl

events-length : (count number state : ℕ) → length (events_from count number state) ≡ count
unfolding events_from
events-length zero number state = refl
events-length (suc count) number state = ap suc (events-length count (number + 1) (state_behind number state))

map-length : {A B : Type 0} (f : A → B) (xs : List A) → length (map f xs) ≡ length xs
map-length f [] = refl
map-length f (x ∷ xs) = ap suc (map-length f xs)

-- the last line of these results, and the status
abbrev line-of : List EventResult → Job → Answer
line-of rs job = record { text = whole job rs ReadToEnd true; status = status_of rs ReadToEnd }

abbrev counts-of : ℕ → ℕ → ℕ → ℕ → Answer
counts-of n ok failed stalled = record {
  text = done_line n ok failed stalled;
  status = if nat_eq ok n then status.AllOk else status.SomeNot;
}

counted : (rs : List EventResult) (n ok failed stalled : ℕ) → length rs ≡ n → tally is_ok rs ≡ ok → tally is_failed rs ≡ failed →
    tally is_stalled rs ≡ stalled → (job : Job) → line-of rs job ≡ counts-of n ok failed stalled
unfolding whole
counted rs n ok failed stalled e a b c job = rw (e, a, b, c) refl

pub bulk-complete : ((language : _) → job_of language options_text ≡ Ok generated_job) →
    ((start events : ℕ) → events ≤ 100000 →
    records_of generated_job (records_text start events) ≡ record { records = events_of start events; refusal = None }) →
    ((start events : ℕ) → tally is_failed (results_of start events) ≡ events / 25) →
    ((start events : ℕ) → tally is_stalled (results_of start events) ≡ events / 10 - events / 50) →
    ((start events : ℕ) → tally is_ok (results_of start events) ≡ events - events / 25 - (events / 10 - events / 50)) →
    (input : Input) → input.events ≤ 100000 → bulk_answer input (file_job options_text) ≡ counted_answer input.events
bulk-complete options records failed stalled ok input few =
    let n = input.events in
    let s = input.start in
    ap (bulk_answer input) (options-job (options known_language))
    ∙ (ap (run_answer generated_job true ReadToEnd) (records s n few)
    ∙ counted (results_of s n) n (ok_of n) (failed_of n) (stalled_of n)
    (map-length _ (events_of s n) ∙ events-length n 1 s) (ok s n) (failed s n) (stalled s n) generated_job)

pub run-due : (words : List (List ℕ)) (files : Option Files) (text : List ℕ) (how : How) (job : Job) (a : Answer) →
    command_of words ≡ Some (OnFile (Run how)) → named_job (file_of words) files ≡ Some (Ok job) →
    IsDue words files (Some text) (Some text) false false a → a ≡ run_answer job how.brief ReadToEnd (records_of job text)
run-due words files text how job a is reads due = rw (is, reads) at due.due

pub run-end : (brief : Bool) (job : Job) (text : List ℕ) → (records_of job text).refusal ≡ None →
    IsEnd (run_answer job brief ReadToEnd (records_of job text)).status
run-end brief job text none =
    subst (λ (o : Option RecordRefusal). IsEnd (status_of (results job (records_of job text).records) (option_map_or RefusedAt o ReadToEnd)))
    (sym none) (by (nat_eq (tally is_ok (results job (records_of job text).records)) (length (results job (records_of job text).records))))
  where
    by : (t : Bool) → IsEnd (if t then status.AllOk else status.SomeNot)
    by true = inl refl
    by false = inr refl

pub same-due : (words other : List (List ℕ)) (files : Option Files) (rest now : Option (List ℕ)) (shelf source : Bool)
    (how further : How) (a : Answer) → command_of words ≡ Some (OnFile (Run how)) →
    command_of other ≡ Some (OnFile (Run further)) → file_of other ≡ file_of words → further.brief ≡ how.brief →
    IsDue words files rest now shelf source a → IsDue other files rest now shelf source a
same-due words other files rest now shelf source how further a is also file brief due =
    record { due = rw (also, file) (by shelf (rw is at due.due)) }
  where
    of-read : (read : Result Job Stop) → IsDueOfFile (Run how) rest now source read a → IsDueOfFile (Run further) rest now source read a
    of-read (Ok job) h = rw brief h
    of-read (Err it) h = h

    of-told : (o : Option (Result Job Stop)) → IfSome o (λ read. IsDueOfFile (Run how) rest now source read a) →
        IfSome o (λ read. IsDueOfFile (Run further) rest now source read a)
    of-told None h = h
    of-told (Some read) h = of-read read h

    by : (s : Bool) → IsDueOfName (Run how) (file_of words) files rest now s source a →
        IsDueOfName (Run further) (file_of words) files rest now s source a
    by true h = h
    by false h = of-told (named_job (file_of words) files) h

pub same-bulk : (words other : List (List ℕ)) (files : Option Files) (rest now : Option (List ℕ)) (shelf source : Bool)
    (input : Input) (one another : Concurrency) (a : Answer) → command_of words ≡ Some (Bulk input one) →
    command_of other ≡ Some (Bulk input another) →
    IsDue words files rest now shelf source a → IsDue other files rest now shelf source a
same-bulk words other files rest now shelf source input one another a is also due =
    record { due = rw also (rw is at due.due) }
