-- What may still be written: after the reports so far, the next one and the last line are parts of a text that may come to be written.
use Rattle.std.proofs.Common.{◌≡◌, inl, inr, ℕ, Bool, true, false, ◌+◌, List, [], ◌∷◌, ◌++◌, drop, slice_get, take, Option, Some, None, length, refl, sym, ap, subst, ◌∙◌, append_assoc, append-nil}
use Rattle.std.proofs.lemmas.List.{take-append-drop}
use Rattle.std.specs.Io.KnownBytes.{Consumes, IsAtEnd}
use Rattle.std.specs.List.{flat_map}
use Rattle.std.specs.Option.{option_map_or}
use Rattle.event_records.specs.Reading.{HasRead, IsFuture, Reading, after, ahead, just, told}
use Rattle.hive_model.specs.Event.{event_result}
use Rattle.hive_model.specs.EventRecord.{EventRecord}
use Rattle.hive_model.specs.EventResult.{EventResult}
use Rattle.hive_model.specs.Job.{Job}
use Rattle.report_text.specs.Tallied.{CountsAll}
use Rattle.report_text.specs.declared.counts.Counts.{Counts}
use Rattle.text_model.specs.Records.{Known}
use Rattle.text_model.specs.Report.{report}
use Rattle.text_model.specs.Whole.{Ending as Last, ReadToEnd, RefusedAt, SourceFailed, last_line, reports, whole}
use Rattle.text_model.specs.declared.record_refusal.RecordRefusal.{RecordRefusal}
use Rattle.hive_pump.specs.Course.{reports_from}
use Rattle.hive_pump.specs.Steps.{IsSent, line_at, report_on}
use Rattle.hive_pump.specs.Written.{CanCome, IsWhole, MayWrite, results, text_of, written}
use Rattle.hive_pump.specs.declared.ending.Ending.TheVariants as ending
use Rattle.hive_pump.proofs.Windows.{drop-all, drop-next, take-next}

-- nothing more may come, be the text over or not
pub no-more : (over : Bool) → IsFuture over [] over
no-more true = (refl, refl)
no-more false = tt

pub results-append : (job : Job) (xs ys : List EventRecord) → results job (xs ++ ys) ≡ results job xs ++ results job ys
results-append job [] ys = refl
results-append job (x ∷ xs) ys = ap (λ rs. event_result job x ∷ rs) (results-append job xs ys)

flat-more : (job : Job) (xs : List EventResult) (x : EventResult) (ys : List EventResult) →
    flat_map (report job) (xs ++ x ∷ ys) ≡ flat_map (report job) xs ++ (flat_map (report job) (x ∷ []) ++ flat_map (report job) ys)
flat-more job [] x ys = ap (λ text. text ++ flat_map (report job) ys) (sym (append-nil (report job x)))
flat-more job (y ∷ xs) x ys =
    ap (λ text. report job y ++ text) (flat-more job xs x ys)
    ∙ sym (append_assoc (report job y) (flat_map (report job) xs) (flat_map (report job) (x ∷ []) ++ flat_map (report job) ys))

pub reports-more : (job : Job) (brief : Bool) (xs : List EventResult) (x : EventResult) (ys : List EventResult) →
    reports job brief (xs ++ x ∷ ys) ≡ reports job brief xs ++ (reports job brief (x ∷ []) ++ reports job brief ys)
reports-more job true xs x ys = refl
reports-more job false xs x ys = flat-more job xs x ys

flat-both : (job : Job) (xs ys : List EventResult) →
    flat_map (report job) (xs ++ ys) ≡ flat_map (report job) xs ++ flat_map (report job) ys
flat-both job [] ys = refl
flat-both job (x ∷ xs) ys =
    ap (λ text. report job x ++ text) (flat-both job xs ys)
    ∙ sym (append_assoc (report job x) (flat_map (report job) xs) (flat_map (report job) ys))

reports-both : (job : Job) (brief : Bool) (xs ys : List EventResult) →
    reports job brief (xs ++ ys) ≡ reports job brief xs ++ reports job brief ys
reports-both job true xs ys = refl
reports-both job false xs ys = flat-both job xs ys

reports-none : (job : Job) (brief : Bool) → reports job brief [] ≡ []
reports-none job true = refl
reports-none job false = refl

-- with one more event
pub written-more : (job : Job) (brief : Bool) (given : List EventRecord) (it : EventRecord) →
    written job brief (given ++ it ∷ []) None ≡ written job brief given None ++ report_on job brief it
written-more job brief given it =
    ap (reports job brief) (results-append job given (it ∷ []))
    ∙ (reports-more job brief (results job given) (event_result job it) []
    ∙ ap (λ text. reports job brief (results job given) ++ text)
    (ap (λ text. report_on job brief it ++ text) (reports-none job brief) ∙ append-nil (report_on job brief it)))

-- those that were written, and those that are still to come
pub written-parts : (job : Job) (brief : Bool) (given : List EventRecord) (n : ℕ) →
    written job brief given None ≡ written job brief (take n given) None ++ reports_from job brief n given
written-parts job brief given n =
    ap (λ l. reports job brief (results job l)) (sym (take-append-drop n given))
    ∙ (ap (reports job brief) (results-append job (take n given) (drop n given))
    ∙ reports-both job brief (results job (take n given)) (results job (drop n given)))

-- the next report, and those behind it
pub reports-next : (job : Job) (brief : Bool) (given : List EventRecord) (n : ℕ) (it : EventRecord) →
    slice_get given n ≡ Some it →
    reports_from job brief n given ≡ report_on job brief it ++ reports_from job brief (n + 1) given
reports-next job brief given n it there =
    ap (λ l. reports job brief (results job l)) (drop-next given n it there)
    ∙ reports-both job brief (event_result job it ∷ []) (results job (drop (n + 1) given))

pub reports-done : (job : Job) (brief : Bool) (given : List EventRecord) (n : ℕ) → n ≡ length given →
    reports_from job brief n given ≡ []
reports-done job brief given n all =
    ap (λ l. reports job brief (results job l)) (drop-all given n all) ∙ reports-none job brief

pub written-last : (job : Job) (brief : Bool) (given : List EventRecord) (last : Last) →
    written job brief given (Some last) ≡ written job brief given None ++ last_line (results job given) last
unfolding whole
written-last job brief given last = refl

can-come : (before now : Option (List ℕ)) (text : List ℕ) → Consumes before now text → CanCome before text
can-come None now text taken = tt
can-come (Some all) None text taken = absurd taken
can-come (Some all) (Some more) text taken = (more, taken)

-- how a text ends whose lines were all taken: by its end, or where the source failed
abbrev pub last_at : Bool → Last
last_at true = ReadToEnd
last_at false = SourceFailed

is-whole : (before now : Option (List ℕ)) (text : List ℕ) → Consumes before now text → IsAtEnd now → IsWhole before text
is-whole None now text taken end = tt
is-whole (Some all) None text taken end = absurd taken
is-whole (Some all) (Some more) text taken end = taken ∙ (ap (λ xs. text ++ xs) end ∙ append-nil text)

may-write : (job : Job) (brief over : Bool) (before now : Option (List ℕ)) (fed : List ℕ) (all : Known) → Consumes before now fed →
    (over ≡ true → IsAtEnd now) → told over job fed ≡ all → MayWrite job brief before (text_of job brief (last_at over) all)
may-write job brief true before now fed all taken end e =
    inl (fed, is-whole before now fed taken (end refl), ap (text_of job brief ReadToEnd) (sym e))
may-write job brief false before now fed all taken end e =
    inr (fed, can-come before now fed taken, ap (text_of job brief SourceFailed) (sym e))

-- what is known of the text so far
pub told-now : (job : Job) (fed : List ℕ) (given : List EventRecord) (r : Reading) → HasRead job fed given r →
    told r.ended job fed ≡ after given (ahead r [] r.ended)
told-now job fed given r has = ap (told r.ended job) (sym (append-nil fed)) ∙ has.rest [] r.ended (no-more r.ended)

-- the text that may come to be written is the reports so far, the next one, and more
text-split : (job : Job) (brief : Bool) (given : List EventRecord) (it : EventRecord) (later : Known) (last : Last) →
    (back : List ℕ) × (text_of job brief last (after (given ++ it ∷ []) later) ≡ written job brief given None ++ (report_on job brief it ++ back))
unfolding whole
text-split job brief given it later last =
    let e = option_map_or RefusedAt later.refusal last in
    let all = (given ++ it ∷ []) ++ later.records in
    let line = last_line (results job all) e in
    let rest = reports job brief (results job later.records) in
    let split : results job all ≡ results job given ++ event_result job it ∷ results job later.records =
    ap (results job) (append_assoc given (it ∷ []) later.records) ∙ results-append job given (it ∷ later.records) in
    let told : reports job brief (results job all) ≡ reports job brief (results job given) ++ (report_on job brief it ++ rest) =
    ap (reports job brief) split ∙ reports-more job brief (results job given) (event_result job it) (results job later.records) in (
      rest ++ line,
      ap (λ text. text ++ line) told
          ∙ (append_assoc (reports job brief (results job given)) (report_on job brief it ++ rest) line
          ∙ ap (λ text. reports job brief (results job given) ++ text) (append_assoc (report_on job brief it) rest line)),
    )

-- what is known of the text is the records whose reports were written, the next one, and what follows
known-split : (given : List EventRecord) (n : ℕ) (it : EventRecord) (later : Known) → slice_get given n ≡ Some it →
    after (take n given ++ it ∷ []) (record later { records = drop (n + 1) given ++ later.records })
    ≡ after given later
known-split given n it later there =
    let front = take n given ++ it ∷ [] in
    let whole : front ++ drop (n + 1) given ≡ given =
    ap (λ l. l ++ drop (n + 1) given) (sym (take-next given n it there)) ∙ take-append-drop (n + 1) given in
    ap (λ l. record { records = l; refusal = later.refusal })
    (sym (append_assoc front (drop (n + 1) given) later.records) ∙ ap (λ l. l ++ later.records) whole)

module _ {S K : Type 0} (rest : S → Option (List ℕ)) (got : K → Option (List ℕ)) (faults : K → ℕ) (admits : K → List ℕ → Type 0)
    (front : (k : K) (a b : List ℕ) → admits k (a ++ b) → admits k a) (job : Job) (brief : Bool) (s₀ s : S) (k₀ k : K)
    (room : (text : List ℕ) → MayWrite job brief (rest s₀) text → admits k₀ text) (fed : List ℕ) (given : List EventRecord)
    (n : ℕ) (taken : Consumes (rest s₀) (rest s) fed)
    (sent : IsSent got faults admits k₀ k (written job brief (take n given) None)) where
  -- there is room for the next report
  pub room-event : (it : EventRecord) (r : Reading) → slice_get given n ≡ Some it → HasRead job fed given r →
      (r.ended ≡ true → IsAtEnd (rest s)) → admits k (report_on job brief it)
  room-event it r there has end =
      let later = ahead r [] r.ended in
      let all = told-now job fed given r has in
      let may = may-write job brief r.ended (rest s₀) (rest s) fed (after given later) taken end all in
      let split = text-split job brief (take n given) it
      (record later { records = drop (n + 1) given ++ later.records }) (last_at r.ended) in
      let same = ap (text_of job brief (last_at r.ended)) (sym (known-split given n it later there)) in
      let whole_text = subst (admits k₀) (same ∙ split.1) (room _ may) in
      front k (report_on job brief it) split.0 (sent.room (report_on job brief it ++ split.0) whole_text)

-- the whole text of an input that is known to its end may be written
pub may-end : (job : Job) (brief over : Bool) (before now : Option (List ℕ)) (fed : List ℕ) (given : List EventRecord)
    (refusal : Option RecordRefusal) → Consumes before now fed → (over ≡ true → IsAtEnd now) →
    told over job fed ≡ just given refusal →
    MayWrite job brief before (written job brief given (Some (option_map_or RefusedAt refusal (last_at over))))
may-end job brief over before now fed given refusal taken end e =
    may-write job brief over before now fed (just given refusal) taken end e

-- what was written, and what is still to come of the whole text
pub written-rest : (job : Job) (brief : Bool) (given : List EventRecord) (n : ℕ) (last : Last) →
    written job brief given (Some last)
    ≡ written job brief (take n given) None ++ (reports_from job brief n given ++ last_line (results job given) last)
written-rest job brief given n last =
    let line = last_line (results job given) last in
    written-last job brief given last
    ∙ (ap (λ text. text ++ line) (written-parts job brief given n)
    ∙ append_assoc (written job brief (take n given) None) (reports_from job brief n given) line)

-- there is room for all that is still to come of such a text
pub room-rest : {K : Type 0} (got : K → Option (List ℕ)) (faults : K → ℕ) (admits : K → List ℕ → Type 0) (job : Job)
    (brief : Bool) (k₀ k : K) (given : List EventRecord) (n : ℕ) (last : Last) →
    admits k₀ (written job brief given (Some last)) →
    IsSent got faults admits k₀ k (written job brief (take n given) None) →
    admits k (reports_from job brief n given ++ last_line (results job given) last)
room-rest got faults admits job brief k₀ k given n last may sent =
    let line = last_line (results job given) last in
    let whole = written-rest job brief given n last in
    sent.room (reports_from job brief n given ++ line) (subst (admits k₀) whole may)

-- the last line by the counts
pub line-end : (job : Job) (given : List EventRecord) (counts : Counts) → CountsAll (results job given) counts →
    line_at ending.All counts ≡ last_line (results job given) ReadToEnd
line-end job given counts c = rw (c.events, c.ok, c.failed, c.stalled) refl
