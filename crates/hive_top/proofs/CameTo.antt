-- What came of a run, whatever the words were that asked for it.
use Rattle.std.proofs.Common.{◌≡◌, ℕ, nat_eq, Bool, true, false, List, [], ◌∷◌, ◌++◌, length, Option, Some, None, IfSome, if◌then◌else◌, refl, sym, ap, ◌∙◌, append_assoc, append-nil}
use Rattle.std.specs.Io.KnownBytes.{Consumes, IsAtEnd}
use Rattle.std.specs.Option.{option_map_or}
use Rattle.event_records.specs.Reading.{IsFuture}
use Rattle.hive_model.specs.Event.{event_result}
use Rattle.hive_model.specs.EventRecord.{EventRecord}
use Rattle.hive_model.specs.Job.{Job}
use Rattle.hive_model.specs.declared.entry.Entry.{Entry}
use Rattle.hive_pump.specs.Pumped.{CountsSource}
use Rattle.hive_pump.specs.Reading.{IsRead}
use Rattle.hive_pump.specs.Written.{AppendsPrefix, results, text_of, written}
use Rattle.text_model.specs.Records.{Known, records_of}
use Rattle.text_model.specs.Report.{report}
use Rattle.text_model.specs.Whole.{Ending as Last, ReadToEnd, RefusedAt, SourceFailed, is_ok, last_line, reports, tally, whole}
use Rattle.text_model.specs.declared.record_refusal.RecordRefusal.{RecordRefusal}
use Rattle.hive_top.specs.Answer.{Answer, IsDueOfJob, run_answer, status_of}
use Rattle.hive_top.specs.Called.{BearsOut, Wrote}
use Rattle.hive_top.specs.RunsTo.{RunsTo, WroteRun}
use Rattle.hive_top.specs.declared.status.Status.{Status}
use Rattle.hive_top.specs.declared.status.Status.TheVariants as status

-- the answer of these records with this end
abbrev answer-of : Job → Bool → List EventRecord → Last → Answer
answer-of job brief given end = record { text = written job brief given (Some end); status = status_of (results job given) end }

same-some : {A : Type 0} (x y : A) → Some x ≡ Some y → x ≡ y
same-some x y e = cc

-- the status of a run that was written is that of how its input ended
wrote-known : (got got' : Option (List ℕ)) (k k' : ℕ) (job : Job) (brief : Bool) (given : List EventRecord) (end : Last) (ended : Status) →
    WroteRun ended got got' k k' job brief given (Some end) → Wrote ended got got' k k' (answer-of job brief given end)
wrote-known got got' k k' job brief given end status.Output w = w
wrote-known got got' k k' job brief given end status.NoMemory w = w
wrote-known got got' k k' job brief given end status.AllOk w = (w.3, rw (same-some end w.0 w.1) w.2, w.4)
wrote-known got got' k k' job brief given end status.SomeNot w = (w.3, rw (same-some end w.0 w.1) w.2, w.4)
wrote-known got got' k k' job brief given end status.Words w = (w.3, rw (same-some end w.0 w.1) w.2, w.4)
wrote-known got got' k k' job brief given end status.Options w = (w.3, rw (same-some end w.0 w.1) w.2, w.4)
wrote-known got got' k k' job brief given end status.Record w = (w.3, rw (same-some end w.0 w.1) w.2, w.4)
wrote-known got got' k k' job brief given end status.Input w = (w.3, rw (same-some end w.0 w.1) w.2, w.4)

-- what was written of an input whose end wasn't seen is a prefix
pub longer : (got got' : Option (List ℕ)) (a b c : List ℕ) → AppendsPrefix got got' a → b ≡ a ++ c → AppendsPrefix got got' b
longer got got' a b c p e = record {
  front = p.front;
  back = p.back ++ c;
  whole = e ∙ (ap (λ xs. xs ++ c) p.whole ∙ append_assoc p.front p.back c);
  bytes = p.bytes;
}

-- what of the rest may come after the bytes that were taken
future : (ended : Bool) (now : Option (List ℕ)) (more : List ℕ) → (ended ≡ true → IsAtEnd now) → now ≡ Some more → IsFuture ended more true
future true now more end is = (rw is at (end refl), refl)
future false now more end is = tt

reports-both : (job : Job) (brief : Bool) (given later : List EventRecord) →
    reports job brief (results job (given ++ later)) ≡ reports job brief (results job given) ++ reports job brief (results job later)
reports-both job true given later = refl
reports-both job false [] later = refl
reports-both job false (x ∷ given) later =
    ap (λ xs. report job (event_result job x) ++ xs) (reports-both job false given later)
    ∙ sym (append_assoc (report job (event_result job x)) (reports job false (results job given)) (reports job false (results job later)))

text-longer : (job : Job) (brief : Bool) (given later : List EventRecord) (last : Last) (refusal : Option RecordRefusal) →
    text_of job brief last (record { records = given ++ later; refusal = refusal })
    ≡ written job brief given None ++ (reports job brief (results job later) ++ last_line (results job (given ++ later)) (option_map_or RefusedAt refusal last))
unfolding whole
text-longer job brief given later last refusal =
    ap (λ xs. xs ++ last_line (results job (given ++ later)) (option_map_or RefusedAt refusal last)) (reports-both job brief given later)
    ∙ append_assoc (reports job brief (results job given)) (reports job brief (results job later)) _

-- what came of a run, whatever the words were that asked for it
pub record CameTo (job : Job) (brief : Bool) (rest now got got' : Option (List ℕ)) (s s' k k' : ℕ) (ended : Status) : Type 0 where
  pub source : Bool
  pub count : BearsOut source s s'
  pub answer : Answer
  pub due : IsDueOfJob rest now source job brief answer
  pub wrote : Wrote ended got got' k k' answer
  pub input : ended ≡ status.Input → source ≡ true

module _ (job : Job) (brief : Bool) (rest now got got' : Option (List ℕ)) (s s' k k' : ℕ) where
  abbrev pub CameSo : Status → Type 0
  CameSo ended = CameTo job brief rest now got got' s s' k k' ended

  -- all is known of the input: it ended, or a line was refused
  known-due : (given : List EventRecord) (end : Last) (text : List ℕ) (ended : Bool) → Consumes rest now text → (ended ≡ true → IsAtEnd now) →
      ((more : List ℕ) → IsFuture ended more true → run_answer job brief ReadToEnd (records_of job (text ++ more)) ≡ answer-of job brief given end) →
      IsDueOfJob rest now false job brief (answer-of job brief given end)
  known-due given end text ended taken at_end known = by rest now taken at_end
    where
      by : (o n : Option (List ℕ)) → Consumes o n text → (ended ≡ true → IsAtEnd n) →
          IfSome o (λ all. answer-of job brief given end ≡ run_answer job brief ReadToEnd (records_of job all))
      by None n taken at_end = tt
      by (Some all) None taken at_end = absurd taken
      by (Some all) (Some more) taken at_end =
          sym (ap (λ t. run_answer job brief ReadToEnd (records_of job t)) taken ∙ known more (future ended (Some more) more at_end refl))

  -- the whole text was written, or broken off at its end, and how the input ended is known
  came-known : (given : List EventRecord) (end : Last) (source : Bool) (ended : Status) → BearsOut source s s' →
      IsDueOfJob rest now source job brief (answer-of job brief given end) → (ended ≡ status.Input → source ≡ true) →
      WroteRun ended got got' k k' job brief given (Some end) → CameSo ended
  came-known given end source ended count due input wrote = record {
    source = source;
    count = count;
    answer = answer-of job brief given end;
    due = due;
    wrote = wrote-known got got' k k' job brief given end ended wrote;
    input = input;
  }

  not-input : (given : List EventRecord) (end : Last) (ended : Status) → (status_of (results job given) end ≡ status.Input → ⊥) →
      WroteRun ended got got' k k' job brief given (Some end) → ended ≡ status.Input → ⊥
  not-input given end ended never wrote e =
      let w = rw e at wrote in
      never (rw (same-some end w.0 w.1) (sym w.2))

  status-of-end : (given : List EventRecord) → status_of (results job given) ReadToEnd ≡ status.Input → ⊥
  status-of-end given = by (nat_eq (tally is_ok (results job given)) (length (results job given)))
    where
      by : (t : Bool) → (if t then status.AllOk else status.SomeNot) ≡ status.Input → ⊥
      by true e = cc
      by false e = cc

  -- the run was broken off before the end of the input was seen
  came-broken : (given : List EventRecord) (read : IsRead job rest now given None) (ended : Status) → s' ≡ s →
      (ended ≡ status.Input → ⊥) → ((a : Answer) → AppendsPrefix got got' a.text → Wrote ended got got' k k' a) →
      AppendsPrefix got got' (written job brief given None) → CameSo ended
  came-broken given read ended calm input wrote bytes = by rest now read.taken read.at_end refl refl
    where
      made : (source_due : Answer) → IsDueOfJob rest now false job brief source_due → AppendsPrefix got got' source_due.text → CameSo ended
      made a due prefix = record {
        source = false;
        count = calm;
        answer = a;
        due = due;
        wrote = wrote a prefix;
        input = λ e. absurd (input e);
      }

      by : (o n : Option (List ℕ)) → Consumes o n read.text → (read.ended ≡ true → IsAtEnd n) → rest ≡ o → now ≡ n → CameSo ended
      by None n taken at_end rest_is now_is =
          made (record { text = written job brief given None; status = status.AllOk }) (rw rest_is tt) bytes
      by (Some all) None taken at_end rest_is now_is = absurd taken
      by (Some all) (Some more) taken at_end rest_is now_is =
          let begins = read.says more true (future read.ended (Some more) more at_end refl) in
          let known = records_of job (read.text ++ more) in
          let split : known ≡ record { records = given ++ begins.0; refusal = known.refusal } =
          ap (λ rs. record { records = rs; refusal = known.refusal }) begins.1 in
          let text : text_of job brief ReadToEnd (records_of job all) ≡ _ =
          ap (λ t. text_of job brief ReadToEnd (records_of job t)) taken
          ∙ (ap (text_of job brief ReadToEnd) split ∙ text-longer job brief given begins.0 ReadToEnd known.refusal) in
          made (run_answer job brief ReadToEnd (records_of job all)) (rw rest_is refl) (longer got got' _ _ _ bytes text)

  pub came-to : (slots : ℕ) (ended : Status) (journal : List Entry) →
      RunsTo job slots brief rest now got got' s s' k k' ended journal → CameSo ended
  came-to slots ended journal ran = by ran.last ran.read ran.source_count ran.wrote
    where
      given : List EventRecord
      given = ran.given

      broken-off : IsRead job rest now given None → s' ≡ s → (it : Status) → it ≡ ended → WroteRun it got got' k k' job brief given None → CameSo ended
      broken-off read calm status.Output e wrote =
          came-broken given read ended calm (λ x. let y = e ∙ x in cc) (λ a prefix. rw (← e) (prefix, wrote.1)) wrote.0
      broken-off read calm status.NoMemory e wrote =
          came-broken given read ended calm (λ x. let y = e ∙ x in cc) (λ a prefix. rw (← e) (prefix, wrote.1)) wrote.0
      broken-off read calm status.AllOk e wrote = absurd (let never = wrote.1 in cc)
      broken-off read calm status.SomeNot e wrote = absurd (let never = wrote.1 in cc)
      broken-off read calm status.Words e wrote = absurd (let never = wrote.1 in cc)
      broken-off read calm status.Options e wrote = absurd (let never = wrote.1 in cc)
      broken-off read calm status.Record e wrote = absurd (let never = wrote.1 in cc)
      broken-off read calm status.Input e wrote = absurd (let never = wrote.1 in cc)

      by : (last : Option Last) → IsRead job rest now given last → CountsSource last s s' → WroteRun ended got got' k k' job brief given last → CameSo ended
      by None read count wrote = broken-off read count ended refl wrote
      by (Some ReadToEnd) read count wrote =
          came-known given ReadToEnd false ended count
          (known-due given ReadToEnd read.text read.ended read.taken read.at_end
          (λ more future. let none = rw read.says.0 at future in
          ap (run_answer job brief ReadToEnd) (ap (λ xs. records_of job (read.text ++ xs)) none.0 ∙ ap (records_of job) (append-nil read.text) ∙ read.says.1)))
          (λ e. absurd (not-input given ReadToEnd ended (status-of-end given) wrote e)) wrote
      by (Some (RefusedAt refusal)) read count wrote =
          came-known given (RefusedAt refusal) false ended count
          (known-due given (RefusedAt refusal) read.text read.ended read.taken read.at_end
          (λ more future. ap (run_answer job brief ReadToEnd) (read.says more true future)))
          (λ e. absurd (not-input given (RefusedAt refusal) ended (λ x. cc) wrote e)) wrote
      by (Some SourceFailed) read count wrote =
          came-known given SourceFailed true ended count
          (read.text, read.taken, ap (λ (known : Known). known.refusal) read.says.1, sym (ap (run_answer job brief SourceFailed) read.says.1))
          (λ e. refl) wrote
