-- What a run came to, from how reading stopped and how the rest was finished.
use Rattle.std.proofs.Common.{◌≡◌, ◌⊎◌, inl, inr, ℕ, Bool, List, [], ◌++◌, Option, Some, None, map, refl, sym, ap, subst, ◌∙◌}
use Rattle.std.proofs.KnownBytes.{Appends-nil, Appends-trans}
use Rattle.std.specs.Io.KnownBytes.{Appends}
use Rattle.std.specs.Prelude.{IsSomeAnd}
use Rattle.event_laws.specs.Uncut.{HasNoCut}
use Rattle.event_loop.specs.Loop.{IsLoop, IsOverAt, LoopState, results_of}
use Rattle.hive_edge.specs.Fault.{Rose}
use Rattle.hive_model.specs.Event.{event_result}
use Rattle.hive_model.specs.EventRecord.{EventRecord}
use Rattle.hive_model.specs.Job.{Job}
use Rattle.hive_model.specs.Machine.{Machine, opening}
use Rattle.hive_model.specs.Replay.{IsCompleteRun, IsWholeRun, replay, replay_from}
use Rattle.hive_model.specs.declared.entry.Entry.{Entry}
use Rattle.report_text.specs.Tallied.{CountsAll}
use Rattle.report_text.specs.declared.counts.Counts.{Counts}
use Rattle.text_model.specs.Whole.{Ending as Last, ReadToEnd, RefusedAt, SourceFailed, last_line}
use Rattle.hive_pump.proofs.Courses.{prefix-after, prefix-more}
use Rattle.hive_pump.proofs.Stopping.{read-nothing}
use Rattle.hive_pump.proofs.Texts.{room-rest, written-last, written-rest}
use Rattle.hive_pump.specs.Course.{Course, HasStopped, WrittenBy, reports_left, text_so_far}
use Rattle.hive_pump.specs.Going.{BrokenBy, FinishSays, IsFinal, IsLoopOf, IsTold, LeftBy, course_of, line_for, rest_of}
use Rattle.hive_pump.specs.Pumped.{EndsBy, IsPumped}
use Rattle.hive_pump.specs.Steps.{HasLine, IsBroken, IsSent}
use Rattle.hive_pump.specs.Written.{AppendsPrefix, MayWrite, results, written}
use Rattle.hive_pump.specs.declared.ending.Ending.{Ending}
use Rattle.hive_pump.specs.declared.ending.Ending.TheVariants as ending

-- a line by how reading stopped
record LineOf (job : Job) (given : List EventRecord) (ended : Ending) (last : Option Last) : Type 0 where
  pub line : Last
  pub is : last ≡ Some line
  pub written_as : line_for job given ended ≡ last_line (results job given) line

line-of : (job : Job) (given : List EventRecord) (ended : Ending) (last : Option Last) → HasLine ended →
    EndsBy ended last → LineOf job given ended last
line-of job given ending.All last h e = record { line = ReadToEnd; is = e; written_as = refl }
line-of job given (ending.Refused refusal) last h e = record { line = RefusedAt refusal; is = e; written_as = refl }
line-of job given ending.Source last h e = record { line = SourceFailed; is = e; written_as = refl }
line-of job given ending.Sink last h e = absurd h
line-of job given ending.NoMemory last h e = absurd h

-- a prefix of the reports is one of the whole text
pub longer : (job : Job) (brief : Bool) (old new : Option (List ℕ)) (given : List EventRecord) (last : Option Last) →
    AppendsPrefix old new (written job brief given None) → AppendsPrefix old new (written job brief given last)
longer job brief old new given None p = p
longer job brief old new given (Some last) p =
    prefix-more old new (written job brief given None) (last_line (results job given) last)
    (written job brief given (Some last)) p (written-last job brief given last)

-- the loop at the end, by what it was at first

module _ (job : Job) (slots : ℕ) (old new : LoopState) (o : IsLoopOf job slots old) (f : IsFinal old new) where
  job-is : new.desk.job ≡ job
  job-is = f.job_is ∙ o.job_is

  slots-are : new.desk.slots ≡ slots
  slots-are = f.slots_are ∙ o.slots_are

  about : (P : Job → ℕ → List EventRecord → Type 0) → P new.desk.job new.desk.slots new.desk.admitted →
      P job slots old.desk.admitted
  about P h =
      subst (λ l. P job slots l) f.records
      (subst (λ n. P job n new.desk.admitted) slots-are (subst (λ j. P j new.desk.slots new.desk.admitted) job-is h))

  complete : IsOverAt new → IsCompleteRun job slots old.desk.admitted new.desk.journal
  complete over = about (λ j n l. IsCompleteRun j n l new.desk.journal) over.complete

  whole-run : IsLoop new → IsWholeRun job slots old.desk.admitted new.desk.journal
  whole-run sound = about (λ j n l. IsWholeRun j n l new.desk.journal) sound.desk.legal

  all-counted : HasNoCut job → IsOverAt new → CountsAll (results job old.desk.admitted) new.counts
  all-counted none over =
      about (λ j n l. CountsAll (map (event_result j) l) new.counts) (over.counts (subst HasNoCut (sym job-is) none))

  some-counted : IsLoop new →
      IsSomeAnd (replay job slots old.desk.admitted new.desk.journal)
      (λ (m : Machine). CountsAll (results_of m.finished) new.counts)
  some-counted sound =
      about (λ j n l. IsSomeAnd (replay j n l new.desk.journal) (λ (m : Machine). CountsAll (results_of m.finished) new.counts))
      sound.counted

module _ {S K : Type 0} (rest : S → Option (List ℕ)) (source_faults : S → ℕ) (got : K → Option (List ℕ)) (faults : K → ℕ)
    (admits : K → List ℕ → Type 0) (job : Job) (slots : ℕ) (brief : Bool) (none : HasNoCut job) (s₀ s : S) (k₀ k k' : K)
    (events new : LoopState) (o : IsLoopOf job slots events) (sound : IsLoop new) where
  abbrev pub Pumped : Ending → Type 0
  Pumped result_ =
      IsPumped job slots brief (rest s₀) (rest s) (got k₀) (got k') (source_faults s₀) (source_faults s) (faults k₀)
      (faults k') result_ new.counts new.desk.journal

  abbrev pub Stopped : Ending → Type 0
  Stopped ended = HasStopped rest source_faults got faults admits job brief s₀ s k₀ k (course_of events) ended

  abbrev pub Finished : Ending → Ending → Type 0
  Finished ended result_ = FinishSays got faults admits job brief ended events new k k' result_

  module _ (ended : Ending) (has : HasLine ended) (h : Stopped ended)
      (sent : IsSent got faults admits k₀ k (text_so_far job brief (course_of events))) where
    line : LineOf job events.desk.admitted ended h.input.last
    line = line-of job events.desk.admitted ended h.input.last has h.input.ends

    -- the whole text is what was written, and what was still to come
    text : written job brief events.desk.admitted h.input.last
        ≡ text_so_far job brief (course_of events) ++ rest_of job brief ended (course_of events)
    text =
        ap (written job brief events.desk.admitted) line.is
        ∙ (written-rest job brief events.desk.admitted events.handed line.line
        ∙ ap (λ t. text_so_far job brief (course_of events) ++ (reports_left job brief (course_of events) ++ t))
        (sym line.written_as))

    -- all was written
    wrote : IsSent got faults admits k k' (rest_of job brief ended (course_of events)) →
        Appends (got k₀) (got k') (written job brief events.desk.admitted h.input.last)
    wrote p =
        subst (λ t. Appends (got k₀) (got k') t) (sym text)
        (Appends-trans (got k₀) (got k) (got k') (text_so_far job brief (course_of events))
        (rest_of job brief ended (course_of events)) sent.bytes p.bytes)

    part : AppendsPrefix (got k) (got k') (rest_of job brief ended (course_of events)) →
        AppendsPrefix (got k₀) (got k') (written job brief events.desk.admitted h.input.last)
    part p =
        prefix-after (got k₀) (got k) (got k') (text_so_far job brief (course_of events))
        (rest_of job brief ended (course_of events)) (written job brief events.desk.admitted h.input.last) sent.bytes p text

    broke : BrokenBy got faults job brief (course_of events) k k' ended → IsBroken got faults k k' (rest_of job brief ended (course_of events))
    broke b = by ended has b
      where
        by : (e : Ending) → HasLine e → BrokenBy got faults job brief (course_of events) k k' e →
            IsBroken got faults k k' (rest_of job brief e (course_of events))
        by ending.All x y = y
        by (ending.Refused refusal) x y = y
        by ending.Source x y = y
        by ending.Sink x y = absurd x
        by ending.NoMemory x y = absurd x

    left : LeftBy got faults job brief (course_of events) k k' ended →
        AppendsPrefix (got k) (got k') (rest_of job brief ended (course_of events))
        × ((faults k' ≡ faults k) ⊎ Rose (faults k) (faults k'))
    left b = by ended has b
      where
        by : (e : Ending) → HasLine e → LeftBy got faults job brief (course_of events) k k' e →
            AppendsPrefix (got k) (got k') (rest_of job brief e (course_of events))
            × ((faults k' ≡ faults k) ⊎ Rose (faults k) (faults k'))
        by ending.All x y = y
        by (ending.Refused refusal) x y = y
        by ending.Source x y = y
        by ending.Sink x y = absurd x
        by ending.NoMemory x y = absurd x

    with_line : (result_ : Ending) → Finished ended result_ → Pumped result_
    with_line ending.Sink (f, over, b) = record {
      given = events.desk.admitted;
      last = h.input.last;
      read = h.input.read;
      ends = tt;
      bytes = part (broke b).bytes;
      source_count = h.input.count;
      sink_count = rw (← sent.calm) (broke b).rose;
      run = complete job slots events new o f over;
      counted = all-counted job slots events new o f none over;
    }
    with_line ending.NoMemory (f, b) = record {
      given = events.desk.admitted;
      last = h.input.last;
      read = h.input.read;
      ends = tt;
      bytes = part (left b).0;
      source_count = h.input.count;
      sink_count = subst (λ n. (faults k' ≡ n) ⊎ Rose n (faults k')) sent.calm (left b).1;
      run = whole-run job slots events new o f sound;
      counted = some-counted job slots events new o f sound;
    }
    with_line ending.All (e, f, over, p) = record {
      given = events.desk.admitted;
      last = h.input.last;
      read = h.input.read;
      ends = subst (λ x. EndsBy x h.input.last) (sym e) h.input.ends;
      bytes = wrote p;
      source_count = h.input.count;
      sink_count = p.calm ∙ sent.calm;
      run = complete job slots events new o f over;
      counted = all-counted job slots events new o f none over;
    }
    with_line (ending.Refused refusal) (e, f, over, p) = record {
      given = events.desk.admitted;
      last = h.input.last;
      read = h.input.read;
      ends = subst (λ x. EndsBy x h.input.last) (sym e) h.input.ends;
      bytes = wrote p;
      source_count = h.input.count;
      sink_count = p.calm ∙ sent.calm;
      run = complete job slots events new o f over;
      counted = all-counted job slots events new o f none over;
    }
    with_line ending.Source (e, f, over, p) = record {
      given = events.desk.admitted;
      last = h.input.last;
      read = h.input.read;
      ends = subst (λ x. EndsBy x h.input.last) (sym e) h.input.ends;
      bytes = wrote p;
      source_count = h.input.count;
      sink_count = p.calm ∙ sent.calm;
      run = complete job slots events new o f over;
      counted = all-counted job slots events new o f none over;
    }

  now_longer : (given : List EventRecord) (last : Option Last) → k' ≡ k →
      AppendsPrefix (got k₀) (got k) (written job brief given None) →
      AppendsPrefix (got k₀) (got k') (written job brief given last)
  now_longer given last same p =
      subst (λ x. AppendsPrefix (got k₀) (got x) (written job brief given last)) (sym same)
      (longer job brief (got k₀) (got k) given last p)

  -- the sink had failed while records were read
  after_break : Stopped ending.Sink → (result_ : Ending) → Finished ending.Sink result_ → Pumped result_
  after_break h ending.Sink (f, over, same) = record {
    given = events.desk.admitted;
    last = h.input.last;
    read = h.input.read;
    ends = tt;
    bytes = now_longer events.desk.admitted h.input.last same h.bytes.bytes;
    source_count = h.input.count;
    sink_count = subst (λ x. Rose (faults k₀) (faults x)) (sym same) h.bytes.rose;
    run = complete job slots events new o f over;
    counted = all-counted job slots events new o f none over;
  }
  after_break h ending.NoMemory (f, same) = record {
    given = events.desk.admitted;
    last = h.input.last;
    read = h.input.read;
    ends = tt;
    bytes = now_longer events.desk.admitted h.input.last same h.bytes.bytes;
    source_count = h.input.count;
    sink_count = inr (subst (λ x. Rose (faults k₀) (faults x)) (sym same) h.bytes.rose);
    run = whole-run job slots events new o f sound;
    counted = some-counted job slots events new o f sound;
  }
  after_break h ending.All f = absurd (let e = f.0 in cc)
  after_break h (ending.Refused refusal) f = absurd (let e = f.0 in cc)
  after_break h ending.Source f = absurd (let e = f.0 in cc)

  -- memory had run out while records were read
  after_want : Stopped ending.NoMemory → (result_ : Ending) → Finished ending.NoMemory result_ → Pumped result_
  after_want h ending.NoMemory (f, same) = record {
    given = events.desk.admitted;
    last = h.input.last;
    read = h.input.read;
    ends = tt;
    bytes = now_longer events.desk.admitted h.input.last same h.bytes.0;
    source_count = h.input.count;
    sink_count = subst (λ x. (faults x ≡ faults k₀) ⊎ Rose (faults k₀) (faults x)) (sym same) h.bytes.1;
    run = whole-run job slots events new o f sound;
    counted = some-counted job slots events new o f sound;
  }
  after_want h ending.Sink (f, over, b) = absurd b
  after_want h ending.All f = absurd (let e = f.0 in cc)
  after_want h (ending.Refused refusal) f = absurd (let e = f.0 in cc)
  after_want h ending.Source f = absurd (let e = f.0 in cc)

  pub pumped : (ended result_ : Ending) → Stopped ended → Finished ended result_ → Pumped result_
  pumped ending.All result_ h f = with_line ending.All tt h h.bytes result_ f
  pumped (ending.Refused refusal) result_ h f = with_line (ending.Refused refusal) tt h h.bytes result_ f
  pumped ending.Source result_ h f = with_line ending.Source tt h h.bytes result_ f
  pumped ending.Sink result_ h f = after_break h result_ f
  pumped ending.NoMemory result_ h f = after_want h result_ f

-- there is room for what is still to come after reading has stopped

pub sent-by : {K : Type 0} (got : K → Option (List ℕ)) (faults : K → ℕ) (admits : K → List ℕ → Type 0) (job : Job) (brief : Bool)
    (at : Course) (k₀ k : K) (ended : Ending) → HasLine ended →
    WrittenBy got faults admits job brief at k₀ k ended → IsSent got faults admits k₀ k (text_so_far job brief at)
sent-by got faults admits job brief at k₀ k ending.All has w = w
sent-by got faults admits job brief at k₀ k (ending.Refused refusal) has w = w
sent-by got faults admits job brief at k₀ k ending.Source has w = w
sent-by got faults admits job brief at k₀ k ending.Sink has w = absurd has
sent-by got faults admits job brief at k₀ k ending.NoMemory has w = absurd has

pub room-left : {S K : Type 0} (rest : S → Option (List ℕ)) (source_faults : S → ℕ) (got : K → Option (List ℕ)) (faults : K → ℕ)
    (admits : K → List ℕ → Type 0) (job : Job) (brief : Bool) (s₀ s : S) (k₀ k : K) (at : Course) (ended : Ending) →
    ((text : List ℕ) → MayWrite job brief (rest s₀) text → admits k₀ text) →
    HasStopped rest source_faults got faults admits job brief s₀ s k₀ k at ended → HasLine ended →
    admits k (rest_of job brief ended at)
room-left rest source_faults got faults admits job brief s₀ s k₀ k at ended room h has =
    let line = line-of job at.given ended h.input.last has h.input.ends in
    let sent = sent-by got faults admits job brief at k₀ k ended has h.bytes in
    let there = room-rest got faults admits job brief k₀ k at.given at.handed line.line
    (room (written job brief at.given (Some line.line)) (h.input.may brief line.line line.is)) sent in
    subst (admits k) (ap (λ t. reports_left job brief at ++ t) (sym line.written_as)) there

-- memory ran out before anything was read

led-none : (job : Job) (slots : ℕ) → replay job slots [] [] ≡ Some (opening slots)
unfolding replay replay_from
led-none job slots = refl

pub ends-unread : {S K : Type 0} (rest : S → Option (List ℕ)) (source_faults : S → ℕ) (got : K → Option (List ℕ))
    (faults : K → ℕ) (job : Job) (slots : ℕ) (brief : Bool) (s : S) (k : K) (counts : Counts) (journal : List Entry) →
    counts ≡ record { events = 0; ok = 0; failed = 0; stalled = 0 } → journal ≡ [] →
    IsPumped job slots brief (rest s) (rest s) (got k) (got k) (source_faults s) (source_faults s) (faults k) (faults k)
    ending.NoMemory counts journal
ends-unread rest source_faults got faults job slots brief s k counts journal zero_ empty = record {
  given = [];
  last = None;
  read = read-nothing job (rest s);
  ends = tt;
  bytes = record { front = []; back = written job brief [] None; whole = refl; bytes = Appends-nil (got k) };
  source_count = refl;
  sink_count = inl refl;
  run = subst (λ l. IsWholeRun job slots [] l) (sym empty)
      (subst (λ o. IsSomeAnd o (λ (m : Machine). m.admitted ≡ 0)) (sym (led-none job slots)) refl);
  counted = subst (λ l. IsSomeAnd (replay job slots [] l) (λ (m : Machine). CountsAll (results_of m.finished) counts))
      (sym empty)
      (subst (λ o. IsSomeAnd o (λ (m : Machine). CountsAll (results_of m.finished) counts)) (sym (led-none job slots))
      (rw zero_ (record { events = refl; ok = refl; failed = refl; stalled = refl })));
}

-- as it is told
pub as-told : (job : Job) (slots : ℕ) (brief : Bool) (rest rest_now got got_now : Option (List ℕ))
    (source source_now sink sink_now : ℕ) (ended told : Ending) (counts told_counts : Counts)
    (journal told_journal : List Entry) →
    IsPumped job slots brief rest rest_now got got_now source source_now sink sink_now ended counts journal →
    told ≡ ended → told_counts ≡ counts → told_journal ≡ journal →
    IsPumped job slots brief rest rest_now got got_now source source_now sink sink_now told told_counts told_journal
as-told job slots brief rest rest_now got got_now source source_now sink sink_now ended told counts told_counts journal
    told_journal p e f h =
    subst (λ x. IsPumped job slots brief rest rest_now got got_now source source_now sink sink_now x told_counts
    told_journal) (sym e)
    (subst (λ x. IsPumped job slots brief rest rest_now got got_now source source_now sink sink_now ended x
    told_journal) (sym f)
    (subst (λ x. IsPumped job slots brief rest rest_now got got_now source source_now sink sink_now ended counts x)
    (sym h) p))

-- from what was told of the loop that was brought to its end
pub ran : {S K : Type 0} (rest : S → Option (List ℕ)) (source_faults : S → ℕ) (got : K → Option (List ℕ)) (faults : K → ℕ)
    (admits : K → List ℕ → Type 0) (job : Job) (slots : ℕ) (brief : Bool) → HasNoCut job → (s₀ s : S) (k₀ k k' : K)
    (events : LoopState) → IsLoopOf job slots events → (ended result_ : Ending) (counts : Counts) (journal : List Entry) →
    HasStopped rest source_faults got faults admits job brief s₀ s k₀ k (course_of events) ended →
    IsTold got faults admits job brief ended events k k' result_ counts journal →
    IsPumped job slots brief (rest s₀) (rest s) (got k₀) (got k') (source_faults s₀) (source_faults s) (faults k₀)
    (faults k') result_ counts journal
ran rest source_faults got faults admits job slots brief none s₀ s k₀ k k' events o ended result_ counts journal h t =
    as-told job slots brief (rest s₀) (rest s) (got k₀) (got k') (source_faults s₀) (source_faults s) (faults k₀)
    (faults k') result_ result_ t.new.counts counts t.new.desk.journal journal
    (pumped rest source_faults got faults admits job slots brief none s₀ s k₀ k k' events t.new o t.sound ended result_ h
    t.says) refl t.counts_are t.journal_is
