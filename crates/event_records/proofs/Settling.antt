-- What a reader answers where no line is left, and what it stands for then.
use Rattle.std.proofs.Common.{◌≡◌, ℕ, ◌+◌, Bool, true, false, List, [], ◌++◌, Option, Some, None, IfSome, refl, ap, sym, ◌∙◌, append_assoc, append-nil}
use Rattle.hive_model.specs.EventRecord.{EventRecord}
use Rattle.hive_model.specs.Job.{Job}
use Rattle.text_model.specs.Lines.{lines}
use Rattle.text_model.specs.Records.{Known, at_end, known, most_events, opening, read_lines}
use Rattle.text_model.specs.declared.line.Progress.{Progress}
use Rattle.text_model.specs.declared.record_refusal.RecordCause.TheVariants as cause
use Rattle.text_model.specs.declared.record_refusal.RecordRefusal.{RecordRefusal}
use Rattle.event_records.specs.Cutting.{Reads, further}
use Rattle.event_records.specs.Kept.{Refuses}
use Rattle.event_records.specs.Reading.{HasRead, IsFuture, IsRefused, Reading, Tells, after, ahead, ahead_of, just, standing_at_rest, told}
use Rattle.event_records.specs.declared.next.Next.{Next}
use Rattle.event_records.specs.declared.next.Next.TheVariants.{More, Finished}

-- a reader that was fed nothing
pub opened : (job : Job) (text : List ℕ) (over : Bool) → told over job text ≡ after [] (ahead_of None over job opening text)
unfolding known
opened job text true = refl
opened job text false = refl

pub now-future : (ended : Bool) → IsFuture ended [] ended
now-future true = (refl, refl)
now-future false = tt

after-after : (given new : List EventRecord) (later : Known) → after given (after new later) ≡ after (given ++ new) later
after-after given new later = ap (λ (records : List EventRecord). just records later.refusal) (sym (append_assoc given new later.records))

after-just : (given : List EventRecord) (refusal : Option RecordRefusal) → after given (just [] refusal) ≡ just given refusal
after-just given refusal = ap (λ (records : List EventRecord). just records refusal) (append-nil given)

-- the lines that were read, and the records that they gave
pub taken : (job : Job) (fed : List ℕ) (given new : List EventRecord) (old : Reading) (before : Progress) (rest : List ℕ) → HasRead job fed given old → old.refusal ≡ None →
    Reads old.job.raws (most_events old.job) old.ended old.pending old.before (further old.job.raws (most_events old.job) new before rest) →
    HasRead job fed (given ++ new) (record old { pending = rest; before = before })
taken job fed given new old before rest has unrefused reads = record {
  same_job = has.same_job;
  rest = λ more over future.
      has.rest more over future
      ∙ rw unrefused
      (ap (after given) (reads.read more over future)
      ∙ after-after given new (read_lines over old.job.raws (most_events old.job) before (lines over (rest ++ more))));
}

-- what is known where no line is left
at_rest : (job : Job) (fed : List ℕ) (given : List EventRecord) (r : Reading) → HasRead job fed given r → r.refusal ≡ None → lines r.ended r.pending ≡ [] →
    told r.ended job fed ≡ after given (at_end r.ended r.before)
unfolding read_lines
at_rest job fed given r has unrefused none =
    let text : r.pending ++ [] ≡ r.pending = append-nil r.pending in
    let ahead_is : ahead r [] r.ended ≡ at_end r.ended r.before = rw (unrefused, text, none) refl in
    rw (append-nil fed) at (has.rest [] r.ended (now-future r.ended)) ∙ ap (after given) ahead_is

-- a text that has ended and lacks its header
headless : (job : Job) (fed : List ℕ) (given : List EventRecord) (mid : Reading) (refusal : RecordRefusal) → HasRead job fed given mid → mid.ended ≡ true →
    told true job fed ≡ just given (Some refusal) → HasRead job fed given (record mid { refusal = Some refusal; pending = []; held = 0 }) × IsRefused job fed given mid.ended refusal
headless job fed given mid refusal has e so =
    (record { same_job = has.same_job; rest = λ more over future. all more over future ∙ sym (after-just given (Some refusal)) }, all)
  where
    all : IsRefused job fed given mid.ended refusal
    all more over future =
        let last : IsFuture true more over = rw e at future in
        rw (last.0, last.1, append-nil fed) so

-- the answer there
pub rested : (job : Job) (fed : List ℕ) (given : List EventRecord) (mid now : Reading) (answer : Next) → HasRead job fed given mid → mid.refusal ≡ None → lines mid.ended mid.pending ≡ [] →
    (mid.ended ≡ false → (answer ≡ More) × (now ≡ mid)) →
    (mid.ended ≡ true → mid.before.header ≡ true → (answer ≡ Finished) × (now ≡ mid)) →
    (mid.ended ≡ true → mid.before.header ≡ false → Refuses cause.Header mid answer now) →
    Tells job fed given mid.ended answer now
rested job fed given mid now answer has unrefused none more finished refused = by mid.ended refl mid.before.header refl
  where
    told_is : told mid.ended job fed ≡ after given (at_end mid.ended mid.before)
    told_is = at_rest job fed given mid has unrefused none

    by : (t : Bool) → mid.ended ≡ t → (u : Bool) → mid.before.header ≡ u → Tells job fed given mid.ended answer now
    by false e u h =
        let is = more e in
        let so : told false job fed ≡ just given None = (rw e at told_is) ∙ after-just given None in
        rw (is.0, is.1) (has, e, so)
    by true e true h =
        let is = finished e h in
        let so : told true job fed ≡ just given None = (rw (e, h) at told_is) ∙ after-just given None in
        rw (is.0, is.1) (has, e, so)
    by true e false h =
        let is = refused e h in
        let refusal : RecordRefusal = record { line = mid.before.lines + 1; cause = cause.Header } in
        let so : told true job fed ≡ just given (Some refusal) = (rw (e, h) at told_is) ∙ after-just given (Some refusal) in
        rw (is.answer_is, is.now_is) (headless job fed given mid refusal has e so)

-- nothing is taken where no line was there
pub stands : (old mid now : Reading) (answer : Next) → mid ≡ old →
    (mid.ended ≡ false → (answer ≡ More) × (now ≡ mid)) →
    (mid.ended ≡ true → mid.before.header ≡ true → (answer ≡ Finished) × (now ≡ mid)) →
    IfSome (standing_at_rest old.ended old.before.header []) (λ a. (answer ≡ a) × (now ≡ old))
stands old mid now answer same more finished = by old.ended refl old.before.header refl
  where
    by : (t : Bool) → old.ended ≡ t → (u : Bool) → old.before.header ≡ u → IfSome (standing_at_rest t u []) (λ a. (answer ≡ a) × (now ≡ old))
    by false e u h = let is = more (ap (λ (r : Reading). r.ended) same ∙ e) in (is.0, is.1 ∙ same)
    by true e true h = let is = finished (ap (λ (r : Reading). r.ended) same ∙ e) (ap (λ (r : Reading). r.before.header) same ∙ h) in (is.0, is.1 ∙ same)
    by true e false h = tt
