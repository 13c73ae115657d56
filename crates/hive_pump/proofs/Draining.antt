-- The loop runs out: each step brings it nearer to its end, and writes what is due.
use Rattle.std.proofs.Common.{◌≡◌, ◌⊎◌, inl, inr, ℕ, ◌+◌, ◌-◌, ◌<◌, Bool, List, [], ◌++◌, Option, Some, None, length, slice_get, refl, sym, ap, subst, ◌∙◌, append_assoc, append-nil, arith}
use Rattle.std.proofs.lemmas.Option.{slice_get_within}
use Rattle.std.specs.Prelude.{IsSomeAnd}
use Rattle.event_loop.specs.Loop.{Closes, HandsOut, IsOverAt, KeepsOn, LoopState, work_at, work_left}
use Rattle.hive_model.specs.EventRecord.{EventRecord}
use Rattle.hive_model.specs.EventResult.{EventResult}
use Rattle.hive_model.specs.Job.{Job}
use Rattle.hive_pump.proofs.Courses.{broken-after, broken-more, course-is, left-shown, prefix-of, room-shown, sent-both, sent-nothing}
use Rattle.hive_pump.proofs.Shown.{unmoved}
use Rattle.hive_pump.proofs.Texts.{reports-done}
use Rattle.hive_pump.specs.Course.{Course, IsShown, reports_left}
use Rattle.hive_pump.specs.Going.{DrainSays, IsFinal, IsShownAt, IsWorked, Stays, course_of}
use Rattle.hive_pump.specs.Steps.{IsBroken, IsSent, report_on}
use Rattle.hive_pump.specs.Written.{AppendsPrefix}
use Rattle.hive_pump.specs.declared.step.Step.TheVariants.{Over, Broken, NoMemory}

-- the loop as it was at first, and as it is

pub stays-same : (it : LoopState) → Stays it it
stays-same it = record { job_is = refl; slots_are = refl; records = refl; closed = refl }

pub stays-both : (a b c : LoopState) → Stays a b → Stays b c → Stays a c
stays-both a b c first then_ = record {
  job_is = then_.job_is ∙ first.job_is;
  slots_are = then_.slots_are ∙ first.slots_are;
  records = then_.records ∙ first.records;
  closed = then_.closed ∙ first.closed;
}

pub kept-stays : (a b : LoopState) → KeepsOn a b → Stays a b
kept-stays a b k = record { job_is = k.job; slots_are = k.slots; records = k.records; closed = k.closed }

pub kept-course : (a b : LoopState) → KeepsOn a b → course_of b ≡ course_of a
kept-course a b k = course-is (course_of b) (course_of a) k.records k.handed

pub stays-final : (a b : LoopState) → Stays a b → IsFinal a b
stays-final a b s = record { job_is = s.job_is; slots_are = s.slots_are; records = s.records }

pub final-both : (a b c : LoopState) → IsFinal a b → IsFinal b c → IsFinal a c
final-both a b c first then_ = record {
  job_is = then_.job_is ∙ first.job_is;
  slots_are = then_.slots_are ∙ first.slots_are;
  records = then_.records ∙ first.records;
}

-- how much is left to hand out and to work off
abbrev pub left_in : LoopState → ℕ
left_in it = (length it.desk.admitted - it.handed) + work_left it

pub shown-less : (old new : LoopState) (event : EventRecord) → slice_get old.desk.admitted old.handed ≡ Some event →
    new.desk ≡ old.desk → new.handed ≡ old.handed + 1 → left_in new < left_in old
shown-less old new event there desk handed =
    let within = slice_get_within old.desk.admitted old.handed event there in
    let many = ap (λ d. length d.admitted) desk in
    let work : work_left new ≡ work_left old = ap work_at desk in
    omega (arith, within, many, work, handed)

pub worked-less : (old new : LoopState) → KeepsOn old new → work_left new < work_left old → left_in new < left_in old
worked-less old new k less =
    let many = ap length k.records in
    omega (arith, many, k.handed, less)

pub went-less : {K : Type 0} (got : K → Option (List ℕ)) (faults : K → ℕ) (admits : K → List ℕ → Type 0) (job : Job)
    (brief : Bool) (old new : LoopState) (k k' : K) →
    (IsWorked old new k k' ⊎ IsShownAt job brief old new (IsSent got faults admits k k')) → left_in new < left_in old
went-less got faults admits job brief old new k k' (inl w) = worked-less old new w.keeps w.less
went-less got faults admits job brief old new k k' (inr s) =
    shown-less old new s.shown.event s.shown.there s.desk (ap (λ (c : Course). c.handed) s.shown.moved)

module _ {K : Type 0} (got : K → Option (List ℕ)) (faults : K → ℕ) (admits : K → List ℕ → Type 0) (job : Job) (brief : Bool)
  where
    -- the sink has got so much since the loop began to run out, and admits what is still to come
    pub record Runs (first now : Course) (k₀ k : K) : Type 0 where
      pub text : List ℕ
      pub sent : IsSent got faults admits k₀ k text
      pub whole : reports_left job brief first ≡ text ++ reports_left job brief now
      pub room : admits k (reports_left job brief now)

    pub begins : (at : Course) (k : K) → admits k (reports_left job brief at) → Runs at at k k
    begins at k room = record { text = []; sent = sent-nothing got faults admits k; whole = refl; room = room }

    runs-same : (first now next : Course) (k₀ k k' : K) → Runs first now k₀ k → next ≡ now → k' ≡ k → Runs first next k₀ k'
    runs-same first now next k₀ k k' r same still =
        subst (λ c. Runs first c k₀ k') (sym same) (subst (λ x. Runs first now k₀ x) (sym still) r)

    runs-shown : (first now next : Course) (k₀ k k' : K) → Runs first now k₀ k →
        IsShown job brief now next (IsSent got faults admits k k') → Runs first next k₀ k'
    runs-shown first now next k₀ k k' r s =
        let report = report_on job brief s.event in
        let later = reports_left job brief next in
        record {
          text = r.text ++ report;
          sent = sent-both got faults admits k₀ k k' r.text report (r.text ++ report) r.sent s.puts refl;
          whole = r.whole
              ∙ (ap (λ t. r.text ++ t) (left-shown job brief now next (IsSent got faults admits k k') s)
              ∙ sym (append_assoc r.text report later));
          room = room-shown got faults admits job brief now next k k' r.room s;
        }

    pub runs-went : (first now next : LoopState) (k₀ k k' : K) → Runs (course_of first) (course_of now) k₀ k →
        (IsWorked now next k k' ⊎ IsShownAt job brief now next (IsSent got faults admits k k')) →
        Runs (course_of first) (course_of next) k₀ k'
    runs-went first now next k₀ k k' r (inl w) =
        runs-same (course_of first) (course_of now) (course_of next) k₀ k k' r (kept-course now next w.keeps) w.same
    runs-went first now next k₀ k k' r (inr s) =
        runs-shown (course_of first) (course_of now) (course_of next) k₀ k k' r s.shown

    pub went-stays : (now next : LoopState) (k k' : K) →
        (IsWorked now next k k' ⊎ IsShownAt job brief now next (IsSent got faults admits k k')) → Stays now next
    went-stays now next k k' (inl w) = kept-stays now next w.keeps
    went-stays now next k k' (inr s) = unmoved now next s.desk

    -- how it ended

    pub runs-over : (first now next : LoopState) (k₀ k k' : K) → Runs (course_of first) (course_of now) k₀ k →
        Stays first now → next ≡ now → IsOverAt now → k' ≡ k →
        DrainSays got faults admits job brief first next k₀ k' Over
    runs-over first now next k₀ k k' r stays same over still =
        let none = reports-done job brief now.desk.admitted now.handed over.all in
        let text : reports_left job brief (course_of first) ≡ r.text =
        r.whole ∙ (ap (λ t. r.text ++ t) none ∙ append-nil r.text) in (
          subst (λ x. Stays first x) (sym same) stays,
          subst IsOverAt (sym same) over,
          subst (λ x. IsSent got faults admits k₀ x (reports_left job brief (course_of first))) (sym still)
              (subst (λ t. IsSent got faults admits k₀ k t) (sym text) r.sent),
        )

    pub runs-broken : (first now next : LoopState) (k₀ k k' : K) → Runs (course_of first) (course_of now) k₀ k →
        Stays first now → IsShownAt job brief now next (IsBroken got faults k k') →
        DrainSays got faults admits job brief first next k₀ k' Broken
    runs-broken first now next k₀ k k' r stays s =
        let report = report_on job brief s.shown.event in
        let later = reports_left job brief (course_of next) in
        let is = left-shown job brief (course_of now) (course_of next) (IsBroken got faults k k') s.shown in (
          stays-both first now next stays (unmoved now next s.desk),
          broken-more got faults k₀ k' (r.text ++ report) later (reports_left job brief (course_of first))
              (broken-after got faults admits k₀ k k' r.text report (r.text ++ report) r.sent s.shown.puts refl)
              (r.whole ∙ (ap (λ t. r.text ++ t) is ∙ sym (append_assoc r.text report later))),
        )

    pub runs-memory : (first now next : LoopState) (k₀ k k' : K) → Runs (course_of first) (course_of now) k₀ k →
        Stays first now → Stays now next → k' ≡ k →
        DrainSays got faults admits job brief first next k₀ k' NoMemory
    runs-memory first now next k₀ k k' r stays s still = (
      stays-both first now next stays s,
      subst (λ x. AppendsPrefix (got k₀) (got x) (reports_left job brief (course_of first))) (sym still)
          (prefix-of (got k₀) (got k) r.text (reports_left job brief (course_of now)) (reports_left job brief (course_of first))
          r.sent.bytes r.whole),
      ap faults still ∙ r.sent.calm,
    )

-- while nothing is written

pub handed-less : (old new : LoopState) (r : EventResult) → HandsOut old r new → left_in new < left_in old
handed-less old new r h =
    let it = there-of (slice_get old.desk.admitted old.handed) _ h.result in
    shown-less old new it.0 it.1 h.desk h.handed
  where
    there-of : (o : Option EventRecord) (P : EventRecord → Type 0) → IsSomeAnd o P → (event : EventRecord) × (o ≡ Some event)
    there-of (Some event) P it = (event, refl)
    there-of None P it = absurd it

pub handed-final : (old new : LoopState) (r : EventResult) → HandsOut old r new → IsFinal old new
handed-final old new r h = stays-final old new (unmoved old new h.desk)

pub closes-final : (old new : LoopState) → Closes old new → IsFinal old new
closes-final old new c = record { job_is = c.job; slots_are = c.slots; records = c.records }
