-- A run that goes on stays under way, and on one thread it comes nearer to its end.
use Rattle.std.proofs.Common.{◌≡◌, ◌⊎◌, inl, inr, ℕ, zero, suc, ◌+◌, ◌*◌, ◌<◌, ◌≤◌, Bool, true, false, List, [], ◌∷◌, ◌++◌, Option, None, length, refl, sym, ap, ap₂, subst, ◌∙◌, arith, length-append}
use Rattle.event_loop.specs.Loop.{Admits, IsLoop, LoopState}
use Rattle.hive_model.specs.EventRecord.{EventRecord}
use Rattle.hive_model.specs.Job.{Job}
use Rattle.scheduler_core.specs.Says.{is_closed}
use Rattle.hive_pump.proofs.Courses.{course-is, given-shown, sent-nothing, sent-shown}
use Rattle.hive_pump.proofs.Draining.{kept-course, went-less, went-stays}
use Rattle.hive_pump.proofs.Inputs.{nothing-read}
use Rattle.hive_pump.proofs.Windows.{take-front}
use Rattle.hive_pump.specs.Course.{Course, IsShown, IsUnderWay, with_record}
use Rattle.hive_pump.specs.Going.{IsLoopOf, IsOpening, IsShownAt, IsWorked, Stays, course_of, left_to_do}
use Rattle.hive_pump.specs.Input.{IsInput, IsReadOn, IsUnread, unread}
use Rattle.hive_pump.specs.Steps.{IsSent}
use Rattle.hive_pump.specs.Written.{written}
use Rattle.hive_pump.specs.declared.input.Input.{Input}

written-nothing : (job : Job) (brief : Bool) → written job brief [] None ≡ []
written-nothing job true = refl
written-nothing job false = refl

module _ {S K : Type 0} (rest : S → Option (List ℕ)) (source_faults : S → ℕ) (got : K → Option (List ℕ)) (faults : K → ℕ)
    (admits : K → List ℕ → Type 0) (job : Job) (brief : Bool) (s₀ : S) (k₀ : K) where
  abbrev pub UnderWay : S → K → Input → Course → Type 0
  UnderWay s k input at = IsUnderWay rest source_faults got faults admits job brief s₀ s k₀ k input at

  -- at its start
  pub begun : (input : Input) (at : Course) → IsUnread job input → at ≡ record { given = []; handed = 0 } →
      UnderWay s₀ k₀ input at
  begun input at new none =
      subst (λ c. UnderWay s₀ k₀ input c) (sym none)
      (record {
        read = nothing-read rest source_faults job s₀ input new;
        sent = rw (written-nothing job brief) (sent-nothing got faults admits k₀);
      })

  -- one more record was read, and its event admitted
  pub admit-next : (s s' : S) (k : K) (input new : Input) (at next : Course) (it : EventRecord) → UnderWay s k input at →
      IsReadOn rest source_faults job s₀ s' at.given (at.given ++ it ∷ []) input new → at.handed ≤ length at.given →
      next ≡ with_record at it → UnderWay s' k new next
  admit-next s s' k input new at next it u r few more =
      subst (λ c. UnderWay s' k new c) (sym more)
      (record {
        read = r.input;
        sent = subst (λ l. IsSent got faults admits k₀ k (written job brief l None))
            (sym (take-front at.given (it ∷ []) at.handed few)) u.sent;
      })

  -- one more piece was read
  pub piece-next : (s s' : S) (k : K) (input new : Input) (at : Course) → UnderWay s k input at →
      IsReadOn rest source_faults job s₀ s' at.given at.given input new → UnderWay s' k new at
  piece-next s s' k input new at u r = record { read = r.input; sent = u.sent }

  -- nothing came in or went out
  pub rest-next : (s : S) (k k' : K) (input : Input) (at next : Course) → UnderWay s k input at → next ≡ at → k' ≡ k →
      UnderWay s k' input next
  rest-next s k k' input at next u same still =
      subst (λ c. UnderWay s k' input c) (sym same) (subst (λ x. UnderWay s x input at) (sym still) u)

  -- a report was written
  pub shown-next : (s : S) (k k' : K) (input : Input) (at next : Course) → UnderWay s k input at →
      IsShown job brief at next (IsSent got faults admits k k') → UnderWay s k' input next
  shown-next s k k' input at next u w = record {
    read = subst (λ l. IsInput rest source_faults job s₀ s l input)
        (sym (given-shown job brief at next (IsSent got faults admits k k') w)) u.read;
    sent = sent-shown got faults admits job brief at next k₀ k k' u.sent w;
  }

  -- on one thread a step was made
  pub went-next : (s : S) (k k' : K) (input : Input) (events events' : LoopState) → UnderWay s k input (course_of events) →
      (IsWorked events events' k k' ⊎ IsShownAt job brief events events' (IsSent got faults admits k k')) →
      UnderWay s k' input (course_of events')
  went-next s k k' input events events' u (inl w) =
      rest-next s k k' input (course_of events) (course_of events') u (kept-course events events' w.keeps) w.same
  went-next s k k' input events events' u (inr w) =
      shown-next s k k' input (course_of events) (course_of events') u w.shown

-- what is true of the loop on one thread

pub record IsGoing (job : Job) (slots : ℕ) (it : LoopState) : Type 0 where
  pub loop : IsLoopOf job slots it
  pub on : is_closed it.desk ≡ false

pub loop-stays : (job : Job) (slots : ℕ) (old new : LoopState) → IsLoopOf job slots old → Stays old new → IsLoop new →
    IsLoopOf job slots new
loop-stays job slots old new o s sound = record {
  job_is = s.job_is ∙ o.job_is;
  slots_are = s.slots_are ∙ o.slots_are;
  sound = sound;
}

pub going-stays : (job : Job) (slots : ℕ) (old new : LoopState) → IsGoing job slots old → Stays old new → IsLoop new →
    IsGoing job slots new
going-stays job slots old new o s sound = record {
  loop = loop-stays job slots old new o.loop s sound;
  on = s.closed ∙ o.on;
}

pub going-begun : (job : Job) (slots : ℕ) (it : LoopState) → IsOpening job slots it → IsGoing job slots it
going-begun job slots it o =
    subst (IsGoing job slots) (sym o.opens)
    (record {
      loop = record { job_is = refl; slots_are = refl; sound = subst IsLoop o.opens o.sound };
      on = refl;
    })

pub course-begun : (job : Job) (slots : ℕ) (it : LoopState) → IsOpening job slots it →
    course_of it ≡ record { given = []; handed = 0 }
course-begun job slots it o = ap course_of o.opens

pub going-admitted : (job : Job) (slots : ℕ) (old new : LoopState) (it : EventRecord) → IsGoing job slots old →
    Admits old it new → IsLoop new → IsGoing job slots new
going-admitted job slots old new it o a sound = record {
  loop = record { job_is = a.job ∙ o.loop.job_is; slots_are = a.slots ∙ o.loop.slots_are; sound = sound };
  on = a.on;
}

pub course-admitted : (old new : LoopState) (it : EventRecord) → Admits old it new →
    course_of new ≡ with_record (course_of old) it
course-admitted old new it a = course-is (course_of new) (with_record (course_of old) it) a.records a.handed

-- less is left to do after each turn

times-less : (x y k : ℕ) → x < y → x * k + k ≤ y * k
times-less x zero k e = absurd (omega (arith, e))
times-less zero (suc y) k e = omega arith
times-less (suc x) (suc y) k e =
    let rest = times-less x y k (omega (arith, e)) in
    omega (arith, rest)

pub admit-less : (events events' : LoopState) (it : EventRecord) (input new : Input) →
    unread (events.desk.admitted ++ it ∷ []) new < unread events.desk.admitted input →
    events.handed ≤ length events.desk.admitted → Admits events it events' →
    left_to_do new events' < left_to_do input events
admit-less events events' it input new less handed a =
    let many : length events'.desk.admitted ≡ length events.desk.admitted + 1 =
    ap length a.records ∙ length-append events.desk.admitted (it ∷ []) in
    let times = times-less (unread (events.desk.admitted ++ it ∷ []) new) (unread events.desk.admitted input)
    (length events.desk.job.algorithms + 3) less in
    let there : unread events'.desk.admitted new * (length events'.desk.job.algorithms + 3)
    ≡ unread (events.desk.admitted ++ it ∷ []) new * (length events.desk.job.algorithms + 3) =
    ap₂ (λ l (j : Job). unread l new * (length j.algorithms + 3)) a.records a.job in
    omega (arith, times, there, many, handed, a.handed, a.work)

pub piece-less : (events : LoopState) (input new : Input) →
    unread events.desk.admitted new < unread events.desk.admitted input →
    left_to_do new events < left_to_do input events
piece-less events input new less =
    let times = times-less (unread events.desk.admitted new) (unread events.desk.admitted input)
    (length events.desk.job.algorithms + 3) less in
    omega (arith, times)

pub step-less : {K : Type 0} (got : K → Option (List ℕ)) (faults : K → ℕ) (admits : K → List ℕ → Type 0) (job : Job)
    (brief : Bool) (old new : LoopState) (k k' : K) (input : Input) →
    (IsWorked old new k k' ⊎ IsShownAt job brief old new (IsSent got faults admits k k')) →
    left_to_do input new < left_to_do input old
step-less got faults admits job brief old new k k' input went =
    let less = went-less got faults admits job brief old new k k' went in
    let stays = went-stays got faults admits job brief old new k k' went in
    let same : unread new.desk.admitted input * (length new.desk.job.algorithms + 3)
    ≡ unread old.desk.admitted input * (length old.desk.job.algorithms + 3) =
    ap₂ (λ l (j : Job). unread l input * (length j.algorithms + 3)) stays.records stays.job_is in
    omega (arith, less, same)
