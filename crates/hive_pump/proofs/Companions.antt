-- A run beside workers goes on, stops, and is settled.
use Rattle.std.proofs.Common.{◌≡◌, ◌⊎◌, inl, inr, ℕ, ◌+◌, ◌≤◌, Bool, List, [], ◌∷◌, ◌++◌, Option, None, length, take, refl, sym, ap, subst, ◌∙◌, append-nil, arith, drop_of_length-le, length-take-le, take_all}
use Rattle.std.specs.List.{refill}
use Rattle.std.specs.Prelude.{All, IsSomeAnd}
use Rattle.event_laws.specs.Uncut.{HasNoCut}
use Rattle.event_loop.specs.Loop.{IsLoop, LoopState, results_of}
use Rattle.hall_loop.specs.Beside.{BringsIn, GoesOn, HandsOutBeside, HasNoWork, IsBeside, IsLost, given_of}
use Rattle.hall_loop.specs.Opened.{AreNewWorkers}
use Rattle.hall_loop.specs.Others.{HasOnlyWorked}
use Rattle.hall_loop.specs.Settled.{AreWorkersOf, IsSettled, IsUnsettled}
use Rattle.hall_loop.specs.declared.hall_loop.HallLoop.{HallLoop}
use Rattle.hive_edge.specs.Fault.{Rose}
use Rattle.hive_hall.specs.Pass.{job_of, seen, slots_of}
use Rattle.hive_hall.specs.declared.hall.Hall.{Hall}
use Rattle.hive_hall.specs.declared.pass.Pass.{Pass}
use Rattle.hive_model.specs.EventRecord.{EventRecord}
use Rattle.hive_model.specs.EventResult.{EventResult}
use Rattle.hive_model.specs.History.{records_of}
use Rattle.hive_model.specs.Job.{Job}
use Rattle.hive_model.specs.Machine.{Machine}
use Rattle.hive_model.specs.Many.{Many}
use Rattle.hive_model.specs.Replay.{IsWholeRun, replay}
use Rattle.hive_model.specs.declared.entry.Entry.{Entry}
use Rattle.report_text.specs.Tallied.{CountsAll}
use Rattle.report_text.specs.declared.counts.Counts.{Counts}
use Rattle.text_model.specs.Whole.{reports}
use Rattle.hive_pump.proofs.Courses.{broken-shown, course-is, given-shown, prefix-so-far, room-shown, sent-shown}
use Rattle.hive_pump.proofs.Going.{rest-next, shown-next}
use Rattle.hive_pump.proofs.Pumping.{longer, sent-by}
use Rattle.hive_pump.proofs.Shown.{Next, next-of, shows}
use Rattle.hive_pump.specs.Beside.{GoesOnTo, HasCauseBeside, HasDoneBeside, HasRunOut, Parts, PartsFrom, RestsBeside, RunsOutBeside, StepBesideSays, course_beside}
use Rattle.hive_pump.specs.Course.{Course, HasStopped, IsShown, IsUnderWay, PutsAs, WrittenBy, moved_on, reports_left, text_so_far, with_record}
use Rattle.hive_pump.specs.Going.{IsLoopOf, course_of}
use Rattle.hive_pump.specs.Pumped.{IsPumped}
use Rattle.hive_pump.specs.Steps.{HasLine, IsBroken, IsSent}
use Rattle.hive_pump.specs.Written.{AppendsPrefix, written}
use Rattle.hive_pump.specs.declared.beside.Parted.{Parted}
use Rattle.hive_pump.specs.declared.beside.Parted.TheVariants as parted
use Rattle.hive_pump.specs.declared.ending.Ending.{Ending}
use Rattle.hive_pump.specs.declared.ending.Ending.TheVariants as ending
use Rattle.hive_pump.specs.declared.input.Input.{Input}
use Rattle.hive_pump.specs.declared.step.Step.{Step}
use Rattle.hive_pump.specs.declared.step.Step.TheVariants.{Went, Idle, Over, Broken, NoMemory, Lost}

-- the course by what the loop's calls say

pub course-rests : (old new : HallLoop) → GoesOn old new → course_beside new ≡ course_beside old
course-rests old new g = course-is (course_beside new) (course_beside old) g.given g.handed

pub course-brought : (old new : HallLoop) (it : EventRecord) → BringsIn old it new →
    course_beside new ≡ with_record (course_beside old) it
course-brought old new it b = course-is (course_beside new) (with_record (course_beside old) it) b.given b.handed

course-moved : (hall : Hall) (old new : HallLoop) (r : EventResult) → HandsOutBeside hall old r new →
    course_beside new ≡ moved_on (course_beside old)
course-moved hall old new r h = course-is (course_beside new) (moved_on (course_beside old)) h.given h.handed

-- no more was handed out than was admitted
pub few-handed : (hall : Hall) (it : HallLoop) → IsBeside hall it → it.handed ≤ length (given_of it)
few-handed hall it b =
    let many = length-take-le it.admitted (records_of (seen it.pass)) b.known in
    let within = it.window.within in
    omega (arith, many, within)

module _ {K : Type 0} (got : K → Option (List ℕ)) (faults : K → ℕ) (admits : K → List ℕ → Type 0) (job : Job) (brief : Bool)
  where
    -- a result that was handed out is that of the next record
    pub shown-beside : (hall : Hall) (old new : HallLoop) (k k' : K) (r : EventResult) (answer : Step) → HasNoCut job →
        job_of hall ≡ job → HandsOutBeside hall old r new →
        PutsAs got faults admits (reports job brief (r ∷ [])) k k' answer →
        StepBesideSays got faults admits hall job brief old new k k' answer
    shown-beside hall old new k k' r answer none same h put = by answer put
      where
        it : Next job (course_beside old) r
        it = next-of job (job_of hall) (course_beside old) r none same h.result

        shown_as : (Puts : List ℕ → Type 0) → Puts (reports job brief (r ∷ [])) →
            IsShown job brief (course_beside old) (course_beside new) Puts
        shown_as Puts p =
            shows job brief (course_beside old) (course_beside new) r it (course-moved hall old new r h) Puts p

        by : (a : Step) → PutsAs got faults admits (reports job brief (r ∷ [])) k k' a →
            StepBesideSays got faults admits hall job brief old new k k' a
        by Went p = inr (shown_as (IsSent got faults admits k k') p)
        by Broken p = shown_as (IsBroken got faults k k') p
        by NoMemory p = (h.given, p)
        by Idle p = absurd p
        by Over p = absurd p
        by Lost p = absurd p

    by-sent : (at : Course) (k₀ k : K) (ended : Ending) → HasLine ended →
        IsSent got faults admits k₀ k (text_so_far job brief at) → WrittenBy got faults admits job brief at k₀ k ended
    by-sent at k₀ k ending.All has w = w
    by-sent at k₀ k (ending.Refused refusal) has w = w
    by-sent at k₀ k ending.Source has w = w
    by-sent at k₀ k ending.Sink has w = absurd has
    by-sent at k₀ k ending.NoMemory has w = absurd has

    -- steps were made after reading had stopped

    pub record Drains (old now : Course) (sink sink_now : K) : Type 0 where
      pub given : now.given ≡ old.given
      pub bytes : (first : K) → IsSent got faults admits first sink (text_so_far job brief old) →
          IsSent got faults admits first sink_now (text_so_far job brief now)
      pub room : admits sink_now (reports_left job brief now)

    pub drains-begun : (old now : Course) (k : K) → now ≡ old → admits k (reports_left job brief old) → Drains old now k k
    drains-begun old now k same room =
        subst (λ c. Drains old c k k) (sym same) (record { given = refl; bytes = λ first sent. sent; room = room })

    pub drains-rest : (old now next : Course) (k₀ k k' : K) → Drains old now k₀ k → next ≡ now → k' ≡ k →
        Drains old next k₀ k'
    drains-rest old now next k₀ k k' d same still =
        subst (λ c. Drains old c k₀ k') (sym same) (subst (λ x. Drains old now k₀ x) (sym still) d)

    pub drains-shown : (old now next : Course) (k₀ k k' : K) → Drains old now k₀ k →
        IsShown job brief now next (IsSent got faults admits k k') → Drains old next k₀ k'
    drains-shown old now next k₀ k k' d s = record {
      given = given-shown job brief now next (IsSent got faults admits k k') s ∙ d.given;
      bytes = λ first sent. sent-shown got faults admits job brief now next first k k' (d.bytes first sent) s;
      room = room-shown got faults admits job brief now next k k' d.room s;
    }

    pub drains-went : (old : Course) (now next : HallLoop) (k₀ k k' : K) → Drains old (course_beside now) k₀ k →
        (RestsBeside now next k k'
        ⊎ IsShown job brief (course_beside now) (course_beside next) (IsSent got faults admits k k')) →
        Drains old (course_beside next) k₀ k'
    drains-went old now next k₀ k k' d (inl r) =
        drains-rest old (course_beside now) (course_beside next) k₀ k k' d r.0 r.1
    drains-went old now next k₀ k k' d (inr s) =
        drains-shown old (course_beside now) (course_beside next) k₀ k k' d s

    module _ (ended : Ending) (has : HasLine ended) (old now next : Course) (k₀ k k' : K) (d : Drains old now k₀ k) where
      so_far : (first : K) → WrittenBy got faults admits job brief old first k₀ ended →
          IsSent got faults admits first k (text_so_far job brief now)
      so_far first w = d.bytes first (sent-by got faults admits job brief old first k₀ ended has w)

      pub drains-over : next ≡ now → k' ≡ k → GoesOnTo got faults admits job brief old next k₀ k' ended ended
      drains-over same still =
          subst (λ c. GoesOnTo got faults admits job brief old c k₀ k' ended ended) (sym same)
          (subst (λ x. GoesOnTo got faults admits job brief old now k₀ x ended ended) (sym still)
          (record {
            given = d.given;
            ends = λ last e. e;
            bytes = λ first w. by-sent now first k ended has (so_far first w);
          }))

      pub drains-broken : IsShown job brief now next (IsBroken got faults k k') →
          GoesOnTo got faults admits job brief old next k₀ k' ended ending.Sink
      drains-broken s = record {
        given = given-shown job brief now next (IsBroken got faults k k') s ∙ d.given;
        ends = λ last e. tt;
        bytes = λ first w. broken-shown got faults admits job brief now next first k k' (so_far first w) s;
      }

      pub drains-memory : next.given ≡ now.given → k' ≡ k →
          GoesOnTo got faults admits job brief old next k₀ k' ended ending.NoMemory
      drains-memory same still = record {
        given = same ∙ d.given;
        ends = λ last e. tt;
        bytes = λ first w.
            subst (λ x. WrittenBy got faults admits job brief next first x ending.NoMemory) (sym still)
            (subst (λ l. WrittenBy got faults admits job brief (record now { given = l }) first k ending.NoMemory) (sym same)
            (prefix-so-far got faults admits job brief now first k (so_far first w), inl (so_far first w).calm));
      }

    -- how it goes on

    pub goes-nowhere : (at : Course) (k : K) (ended : Ending) → GoesOnTo got faults admits job brief at at k k ended ended
    goes-nowhere at k ended = record { given = refl; ends = λ last e. e; bytes = λ first w. w }

    pub goes-both : (a b c : Course) (k k₁ k₂ : K) (e e₁ e₂ : Ending) → GoesOnTo got faults admits job brief a b k k₁ e e₁ →
        GoesOnTo got faults admits job brief b c k₁ k₂ e₁ e₂ → GoesOnTo got faults admits job brief a c k k₂ e e₂
    goes-both a b c k k₁ k₂ e e₁ e₂ f g = record {
      given = g.given ∙ f.given;
      ends = λ last x. g.ends last (f.ends last x);
      bytes = λ first w. g.bytes first (f.bytes first w);
    }

    -- the sink had failed, and the loop ran out without it
    pub ran-out-beside : (hall : Hall) (old new : HallLoop) (k : K) (p : Parted) → RunsOutBeside hall old new p →
        PartsFrom got faults admits hall job brief ending.Sink old new k k p
    ran-out-beside hall old new k (parted.By ending.Sink) same = record {
      given = same;
      ends = λ last e. e;
      bytes = λ first w. subst (λ l. IsBroken got faults first k (written job brief l None)) (sym same) w;
    }
    ran-out-beside hall old new k (parted.By ending.NoMemory) same = record {
      given = same;
      ends = λ last e. e;
      bytes = λ first w.
          subst (λ l. WrittenBy got faults admits job brief (record { given = l; handed = new.handed }) first k
          ending.NoMemory) (sym same) (w.bytes, inr w.rose);
    }
    ran-out-beside hall old new k (parted.By ending.All) same = absurd same
    ran-out-beside hall old new k (parted.By (ending.Refused refusal)) same = absurd same
    ran-out-beside hall old new k (parted.By ending.Source) same = absurd same
    ran-out-beside hall old new k parted.Lost lost = lost

    pub parts-after : (hall : Hall) (old mid new : HallLoop) (k k₁ k₂ : K) (ended between : Ending) (p : Parted) →
        GoesOnTo got faults admits job brief (course_beside old) (course_beside mid) k k₁ ended between →
        PartsFrom got faults admits hall job brief between mid new k₁ k₂ p →
        PartsFrom got faults admits hall job brief ended old new k k₂ p
    parts-after hall old mid new k k₁ k₂ ended between (parted.By now) g h =
        goes-both (course_beside old) (course_beside mid) (course_beside new) k k₁ k₂ ended between now g h
    parts-after hall old mid new k k₁ k₂ ended between parted.Lost g lost = lost

    pub parts-broken : (hall : Hall) (old closed mid new : HallLoop) (k k₁ : K) (ended : Ending) (p : Parted) →
        GoesOn old closed →
        GoesOnTo got faults admits job brief (course_beside closed) (course_beside mid) k k₁ ended ending.Sink →
        RunsOutBeside hall mid new p → PartsFrom got faults admits hall job brief ended old new k k₁ p
    parts-broken hall old closed mid new k k₁ ended p same g out =
        parts-after hall old mid new k k₁ k₁ ended ending.Sink p
        (subst (λ c. GoesOnTo got faults admits job brief c (course_beside mid) k k₁ ended ending.Sink)
        (course-rests old closed same) g) (ran-out-beside hall mid new k₁ p out)

-- a step was made while the run is under way
pub went-beside : {S K : Type 0} (rest : S → Option (List ℕ)) (source_faults : S → ℕ) (got : K → Option (List ℕ))
    (faults : K → ℕ) (admits : K → List ℕ → Type 0) (job : Job) (brief : Bool) (s₀ s : S) (k₀ k k' : K) (input new : Input)
    (now next : HallLoop) →
    IsUnderWay rest source_faults got faults admits job brief s₀ s k₀ k input (course_beside now) → new ≡ input →
    (RestsBeside now next k k'
    ⊎ IsShown job brief (course_beside now) (course_beside next) (IsSent got faults admits k k')) →
    IsUnderWay rest source_faults got faults admits job brief s₀ s k₀ k' new (course_beside next)
went-beside rest source_faults got faults admits job brief s₀ s k₀ k k' input new now next u same went =
    subst (λ i. IsUnderWay rest source_faults got faults admits job brief s₀ s k₀ k' i (course_beside next)) (sym same)
    (by went)
  where
    by : (RestsBeside now next k k'
        ⊎ IsShown job brief (course_beside now) (course_beside next) (IsSent got faults admits k k')) →
        IsUnderWay rest source_faults got faults admits job brief s₀ s k₀ k' input (course_beside next)
    by (inl r) =
        rest-next rest source_faults got faults admits job brief s₀ k₀ s k k' input (course_beside now) (course_beside next) u
        r.0 r.1
    by (inr w) =
        shown-next rest source_faults got faults admits job brief s₀ k₀ s k k' input (course_beside now) (course_beside next) u
        w

-- what was written by then, however reading stopped

module _ {K : Type 0} (got : K → Option (List ℕ)) (faults : K → ℕ) (admits : K → List ℕ → Type 0) (job : Job) (brief : Bool)
    (at : Course) (k₀ k : K) where
  written-part : (ended : Ending) → WrittenBy got faults admits job brief at k₀ k ended →
      AppendsPrefix (got k₀) (got k) (written job brief at.given None)
  written-part ending.All w = prefix-so-far got faults admits job brief at k₀ k w
  written-part (ending.Refused refusal) w = prefix-so-far got faults admits job brief at k₀ k w
  written-part ending.Source w = prefix-so-far got faults admits job brief at k₀ k w
  written-part ending.Sink w = w.bytes
  written-part ending.NoMemory w = w.0

  written-count : (ended : Ending) → WrittenBy got faults admits job brief at k₀ k ended →
      (faults k ≡ faults k₀) ⊎ Rose (faults k₀) (faults k)
  written-count ending.All w = inl w.calm
  written-count (ending.Refused refusal) w = inl w.calm
  written-count ending.Source w = inl w.calm
  written-count ending.Sink w = inr w.rose
  written-count ending.NoMemory w = w.1

module _ {S K : Type 0} (rest : S → Option (List ℕ)) (source_faults : S → ℕ) (got : K → Option (List ℕ)) (faults : K → ℕ)
    (admits : K → List ℕ → Type 0) (hall : Hall) (job : Job) (brief : Bool) (s₀ s : S) (k₀ : K) where
  abbrev pub Stopped : K → Course → Ending → Type 0
  Stopped k at ended = HasStopped rest source_faults got faults admits job brief s₀ s k₀ k at ended

  pub stopped-on : (old new : Course) (k k' : K) (ended now : Ending) → Stopped k old ended →
      GoesOnTo got faults admits job brief old new k k' ended now → Stopped k' new now
  stopped-on old new k k' ended now h g =
      subst (λ l. Stopped k' (record new { given = l }) now) (sym g.given)
      (record {
        input = record {
          last = h.input.last;
          read = h.input.read;
          ends = g.ends h.input.last h.input.ends;
          count = h.input.count;
          may = h.input.may;
        };
        bytes = subst (λ l. WrittenBy got faults admits job brief (record new { given = l }) k₀ k' now) g.given
            (g.bytes k₀ h.bytes);
      })

  pub parts-on : (old new : HallLoop) (k k' : K) (ended : Ending) (p : Parted) → Stopped k (course_beside old) ended →
      PartsFrom got faults admits hall job brief ended old new k k' p →
      Parts rest source_faults got faults admits hall job brief s₀ s k₀ k' new p
  parts-on old new k k' ended (parted.By now) h g = stopped-on (course_beside old) (course_beside new) k k' ended now h g
  parts-on old new k k' ended parted.Lost h lost = lost

  -- the workers were told to stop
  pub parts-released : (old new : HallLoop) (k : K) (p : Parted) → GoesOn old new → (IsLost hall old → IsLost hall new) →
      Parts rest source_faults got faults admits hall job brief s₀ s k₀ k old p →
      Parts rest source_faults got faults admits hall job brief s₀ s k₀ k new p
  parts-released old new k (parted.By ended) g stays h =
      subst (λ c. Stopped k c ended) (sym (course-rests old new g)) h
  parts-released old new k parted.Lost g stays lost = stays lost

  -- the hall was closed

  pub settled-stopped : (it : HallLoop) (now : LoopState) (k : K) (ended : Ending) → IsSettled hall it now →
      Stopped k (course_beside it) ended → Stopped k (course_of now) ended
  settled-stopped it now k ended s h =
      subst (λ c. Stopped k c ended) (sym (course-is (course_of now) (course_beside it) s.records s.handed)) h

  -- and memory ran out in that
  pub unsettled : (it : HallLoop) (k : K) (ended : Ending) (counts : Counts) (journal : List Entry) → job_of hall ≡ job →
      Stopped k (course_beside it) ended → IsUnsettled hall it counts journal →
      IsPumped job (slots_of hall) brief (rest s₀) (rest s) (got k₀) (got k) (source_faults s₀) (source_faults s)
      (faults k₀) (faults k) ending.NoMemory counts journal
  unsettled it k ended counts journal same h u = record {
    given = given_of it;
    last = h.input.last;
    read = h.input.read;
    ends = tt;
    bytes = longer job brief (got k₀) (got k) (given_of it) h.input.last
        (written-part got faults admits job brief (course_beside it) k₀ k ended h.bytes);
    source_count = h.input.count;
    sink_count = written-count got faults admits job brief (course_beside it) k₀ k ended h.bytes;
    run = subst (λ j. IsWholeRun j (slots_of hall) (given_of it) journal) same u.run;
    counted = subst (λ j. IsSomeAnd (replay j (slots_of hall) (given_of it) journal)
        (λ (m : Machine). CountsAll (results_of m.finished) counts)) same u.counted;
  }

pub settled-loop : (hall : Hall) (job : Job) (it : HallLoop) (now : LoopState) → job_of hall ≡ job → IsSettled hall it now →
    IsLoop now → IsLoopOf job (slots_of hall) now
settled-loop hall job it now same s sound = record {
  job_is = s.job_is ∙ same;
  slots_are = s.slots_are;
  sound = sound;
}

refilled : {X : Type 0} (n : ℕ) (xs ys : List X) → n ≡ length xs → length ys ≡ length xs → refill n xs ys ≡ ys
refilled n xs ys all same =
    ap (λ l. take n (ys ++ l)) (drop_of_length-le xs (omega (arith, same)))
    ∙ (ap (take n) (append-nil ys) ∙ take_all n ys (omega (arith, all, same)))

-- the workers have returned, and their passes stand where they stood
pub workers-returned : (hall : Hall) (workers : Many Pass) (lent back : List Pass) → AreNewWorkers hall workers →
    lent ≡ workers.items → length back ≡ length lent → All (HasOnlyWorked hall) back →
    AreWorkersOf hall (record { items = refill (length workers.items) workers.items back; spare = workers.spare })
workers-returned hall workers lent back new value count worked =
    let many : length back ≡ length workers.items = count ∙ ap length value in
    let is = refilled (length workers.items) workers.items back refl many in
    record {
      all = ap (λ l. length l + 1) is ∙ (ap (λ n. n + 1) many ∙ new.all);
      worked = subst (All (HasOnlyWorked hall)) (sym is) worked;
      room = new.room;
    }

-- why it stopped

-- no report ends the run by itself
pub put-cause : {K : Type 0} (got : K → Option (List ℕ)) (faults : K → ℕ) (admits : K → List ℕ → Type 0)
    (text : List ℕ) (sink sink_now : K) (hall : Hall) (new : HallLoop) (step : Step) →
    PutsAs got faults admits text sink sink_now step → HasCauseBeside hall new step
put-cause got faults admits text sink sink_now hall new Went h = tt
put-cause got faults admits text sink sink_now hall new Broken h = tt
put-cause got faults admits text sink sink_now hall new NoMemory h = tt
put-cause got faults admits text sink sink_now hall new Idle h = absurd h
put-cause got faults admits text sink sink_now hall new Over h = absurd h
put-cause got faults admits text sink sink_now hall new Lost h = absurd h

pub put-done : (old new : HallLoop) (step : Step) → new.handed ≡ old.handed + 1 → HasDoneBeside step old new
put-done old new Went h = inl (omega (arith, h))
put-done old new Broken h = tt
put-done old new NoMemory h = tt
put-done old new Idle h = tt
put-done old new Over h = tt
put-done old new Lost h = tt

-- nothing will be claimed any more, so the run may end in any way
pub run-out : (hall : Hall) (new : HallLoop) (ended : Ending) → HasNoWork hall (seen new.pass) →
    HasRunOut hall new (parted.By ended)
run-out hall new ending.All h = h
run-out hall new (ending.Refused refusal) h = h
run-out hall new ending.Source h = h
run-out hall new ending.Sink h = h
run-out hall new ending.NoMemory h = tt
