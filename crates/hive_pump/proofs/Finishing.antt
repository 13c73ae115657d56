-- A run is brought to its end: what was still to come of the text was written, or a prefix of it.
use Rattle.std.proofs.Common.{◌≡◌, ◌⊎◌, inl, inr, ℕ, Bool, List, ◌++◌, Option, map, refl, sym, ap, subst, ◌∙◌}
use Rattle.event_laws.specs.Uncut.{HasNoCut}
use Rattle.event_loop.specs.Loop.{Closes, IsOverAt, LoopState}
use Rattle.hive_edge.specs.Fault.{Rose}
use Rattle.hive_model.specs.Event.{event_result}
use Rattle.hive_model.specs.EventRecord.{EventRecord}
use Rattle.hive_model.specs.Job.{Job}
use Rattle.report_text.specs.Tallied.{CountsAll}
use Rattle.report_text.specs.declared.counts.Counts.{Counts}
use Rattle.hive_pump.proofs.Courses.{broken-after, course-is, prefix-more, prefix-of, sent-both}
use Rattle.hive_pump.proofs.Draining.{closes-final, final-both, stays-final}
use Rattle.hive_pump.proofs.Texts.{line-end}
use Rattle.hive_pump.specs.Course.{reports_left}
use Rattle.hive_pump.specs.Going.{BrokenBy, DrainSays, FinishSays, IsFinal, LeftBy, RunsOut, course_of, line_for, rest_of}
use Rattle.hive_pump.specs.Steps.{HasLine, IsBroken, IsSent, PutsLast, line_at}
use Rattle.hive_pump.specs.Written.{AppendsPrefix, results}
use Rattle.hive_pump.specs.declared.ending.Ending.{Ending}
use Rattle.hive_pump.specs.declared.ending.Ending.TheVariants as ending
use Rattle.hive_pump.specs.declared.step.Step.TheVariants.{Over, Broken, NoMemory}

-- the last line by the counts is that of the records
pub line-is : (job : Job) (given : List EventRecord) (ended : Ending) (counts : Counts) → HasLine ended →
    CountsAll (results job given) counts → line_at ended counts ≡ line_for job given ended
line-is job given ending.All counts h c = line-end job given counts c
line-is job given (ending.Refused refusal) counts h c = refl
line-is job given ending.Source counts h c = refl
line-is job given ending.Sink counts h c = absurd h
line-is job given ending.NoMemory counts h c = absurd h

counted-all : (job : Job) (given : List EventRecord) (it : LoopState) → it.desk.job ≡ job → it.desk.admitted ≡ given →
    HasNoCut job → IsOverAt it → CountsAll (results job given) it.counts
counted-all job given it same records none over =
    subst (λ l. CountsAll (map (event_result job) l) it.counts) records
    (subst (λ j. CountsAll (map (event_result j) it.desk.admitted) it.counts) same
    (over.counts (subst HasNoCut (sym same) none)))

module _ {K : Type 0} (got : K → Option (List ℕ)) (faults : K → ℕ) (admits : K → List ℕ → Type 0) (job : Job) (brief : Bool)
    (none : HasNoCut job) (old closed : LoopState) (same : old.desk.job ≡ job) (closes : Closes old closed) (k₀ : K) where
  -- the reports that were still to come, from where the loop was closed
  due : reports_left job brief (course_of closed) ≡ reports_left job brief (course_of old)
  due = ap (reports_left job brief) (course-is (course_of closed) (course_of old) closes.records closes.handed)

  broken-by : (ended : Ending) (k k' : K) → HasLine ended → IsBroken got faults k k' (rest_of job brief ended (course_of old)) →
      BrokenBy got faults job brief (course_of old) k k' ended
  broken-by ending.All k k' h p = p
  broken-by (ending.Refused refusal) k k' h p = p
  broken-by ending.Source k k' h p = p
  broken-by ending.Sink k k' h p = absurd h
  broken-by ending.NoMemory k k' h p = absurd h

  left-by : (ended : Ending) (k k' : K) → HasLine ended →
      AppendsPrefix (got k) (got k') (rest_of job brief ended (course_of old)) →
      ((faults k' ≡ faults k) ⊎ Rose (faults k) (faults k')) → LeftBy got faults job brief (course_of old) k k' ended
  left-by ending.All k k' h p f = (p, f)
  left-by (ending.Refused refusal) k k' h p f = (p, f)
  left-by ending.Source k k' h p f = (p, f)
  left-by ending.Sink k k' h p f = absurd h
  left-by ending.NoMemory k k' h p f = absurd h

  module _ (ended : Ending) (new : LoopState) (k k' : K) where
    -- every report was written, and then the last line was put
    pub finished : HasLine ended → DrainSays got faults admits job brief closed new k₀ k Over →
        (counts : Counts) → counts ≡ new.counts → (result_ : Ending) →
        PutsLast got faults admits ended counts k k' result_ →
        FinishSays got faults admits job brief ended old new k₀ k' result_
    finished has (stays, over, sent) counts told result_ put = by result_ put
      where
        final : IsFinal old new
        final = final-both old closed new (closes-final old closed closes) (stays-final closed new stays)

        written_out : IsSent got faults admits k₀ k (reports_left job brief (course_of old))
        written_out = subst (IsSent got faults admits k₀ k) due sent

        line : line_at ended counts ≡ line_for job old.desk.admitted ended
        line = line-is job old.desk.admitted ended counts has
            (subst (CountsAll (results job old.desk.admitted)) (sym told)
            (counted-all job old.desk.admitted new (final.job_is ∙ same) final.records none over))

        whole : rest_of job brief ended (course_of old)
            ≡ reports_left job brief (course_of old) ++ line_at ended counts
        whole = ap (λ t. reports_left job brief (course_of old) ++ t) (sym line)

        sent_all : IsSent got faults admits k k' (line_at ended counts) →
            IsSent got faults admits k₀ k' (rest_of job brief ended (course_of old))
        sent_all p = sent-both got faults admits k₀ k k' (reports_left job brief (course_of old))
            (line_at ended counts) (rest_of job brief ended (course_of old)) written_out p whole

        broken : IsBroken got faults k k' (line_at ended counts) →
            IsBroken got faults k₀ k' (rest_of job brief ended (course_of old))
        broken p = broken-after got faults admits k₀ k k' (reports_left job brief (course_of old)) (line_at ended counts)
            (rest_of job brief ended (course_of old)) written_out p whole

        by : (r : Ending) → PutsLast got faults admits ended counts k k' r →
            FinishSays got faults admits job brief ended old new k₀ k' r
        by ending.Sink p = (final, over, broken-by ended k₀ k' has (broken p))
        by ending.NoMemory p = (
          final,
          left-by ended k₀ k' has
              (subst (λ x. AppendsPrefix (got k₀) (got x) (rest_of job brief ended (course_of old))) (sym p)
              (prefix-of (got k₀) (got k) (reports_left job brief (course_of old))
              (line_at ended counts) (rest_of job brief ended (course_of old)) written_out.bytes whole))
              (inl (ap faults p ∙ written_out.calm)),
        )
        by ending.All p = (p.0, final, over, sent_all p.1)
        by (ending.Refused refusal) p = (p.0, final, over, sent_all p.1)
        by ending.Source p = (p.0, final, over, sent_all p.1)

    -- the sink failed, and the rest was run out without it
    pub broken-off : HasLine ended → (mid : LoopState) → DrainSays got faults admits job brief closed mid k₀ k Broken →
        (result_ : Ending) → RunsOut mid new result_ →
        FinishSays got faults admits job brief ended old new k₀ k result_
    broken-off has mid (stays, broken) result_ out = by result_ out
      where
        final : IsFinal mid new → IsFinal old new
        final f = final-both old mid new
            (final-both old closed mid (closes-final old closed closes) (stays-final closed mid stays)) f

        prefix : AppendsPrefix (got k₀) (got k) (rest_of job brief ended (course_of old))
        prefix = prefix-more (got k₀) (got k) (reports_left job brief (course_of old))
            (line_for job old.desk.admitted ended) (rest_of job brief ended (course_of old))
            (subst (AppendsPrefix (got k₀) (got k)) due broken.bytes) refl

        by : (r : Ending) → RunsOut mid new r → FinishSays got faults admits job brief ended old new k₀ k r
        by ending.Sink (f, over) =
            (final f, over, broken-by ended k₀ k has (record { bytes = prefix; rose = broken.rose }))
        by ending.NoMemory f = (final f, left-by ended k₀ k has prefix (inr broken.rose))
        by ending.All f = absurd f
        by (ending.Refused refusal) f = absurd f
        by ending.Source f = absurd f

    pub out-of-memory : HasLine ended → DrainSays got faults admits job brief closed new k₀ k NoMemory →
        FinishSays got faults admits job brief ended old new k₀ k ending.NoMemory
    out-of-memory has (stays, prefix, calm) = (
      final-both old closed new (closes-final old closed closes) (stays-final closed new stays),
      left-by ended k₀ k has
          (prefix-more (got k₀) (got k) (reports_left job brief (course_of old))
          (line_for job old.desk.admitted ended) (rest_of job brief ended (course_of old))
          (subst (AppendsPrefix (got k₀) (got k)) due prefix) refl) (inl calm),
    )

-- the sink had failed before
ran-out : {K : Type 0} (got : K → Option (List ℕ)) (faults : K → ℕ) (admits : K → List ℕ → Type 0) (job : Job)
    (brief : Bool) (old new : LoopState) (k : K) (result_ : Ending) → RunsOut old new result_ →
    FinishSays got faults admits job brief ending.Sink old new k k result_
ran-out got faults admits job brief old new k ending.Sink (f, over) = (f, over, refl)
ran-out got faults admits job brief old new k ending.NoMemory f =
    (f, refl)
ran-out got faults admits job brief old new k ending.All f = absurd f
ran-out got faults admits job brief old new k (ending.Refused refusal) f = absurd f
ran-out got faults admits job brief old new k ending.Source f = absurd f

pub run-out : {K : Type 0} (got : K → Option (List ℕ)) (faults : K → ℕ) (admits : K → List ℕ → Type 0) (job : Job)
    (brief : Bool) (ended : Ending) (old new : LoopState) (k : K) (result_ : Ending) → ended ≡ ending.Sink →
    RunsOut old new result_ → FinishSays got faults admits job brief ended old new k k result_
run-out got faults admits job brief ended old new k result_ e out =
    subst (λ x. FinishSays got faults admits job brief x old new k k result_) (sym e)
    (ran-out got faults admits job brief old new k result_ out)
