-- A result that was handed out is that of the next record alone, so its report is the one that is due.
use Rattle.std.proofs.Common.{◌≡◌, inr, ℕ, Bool, List, [], ◌∷◌, Option, Some, None, slice_get, refl, sym, ap, subst}
use Rattle.std.specs.Prelude.{IsSomeAnd}
use Rattle.event_laws.specs.Uncut.{HasNoCut}
use Rattle.event_loop.specs.Loop.{HandsOut, IsResultOf, LoopState}
use Rattle.hive_model.specs.Event.{event_result}
use Rattle.hive_model.specs.EventRecord.{EventRecord}
use Rattle.hive_model.specs.EventResult.{EventResult}
use Rattle.hive_model.specs.History.{DeskState}
use Rattle.hive_model.specs.Job.{Job}
use Rattle.scheduler_core.specs.Says.{is_closed}
use Rattle.text_model.specs.Whole.{reports}
use Rattle.hive_pump.proofs.Courses.{course-is}
use Rattle.hive_pump.specs.Course.{Course, IsShown, PutsAs, moved_on}
use Rattle.hive_pump.specs.Going.{IsShownAt, Stays, StepSays, course_of}
use Rattle.hive_pump.specs.Steps.{IsBroken, IsSent, report_on}
use Rattle.hive_pump.specs.declared.step.Step.{Step}
use Rattle.hive_pump.specs.declared.step.Step.TheVariants.{Went, Idle, Over, Broken, NoMemory, Lost}

-- the record whose result was handed out
pub record Next (job : Job) (at : Course) (r : EventResult) : Type 0 where
  pub event : EventRecord
  pub there : slice_get at.given at.handed ≡ Some event
  pub is : r ≡ event_result job event

taken : (job : Job) (o : Option EventRecord) (r : EventResult) (at : Course) → slice_get at.given at.handed ≡ o →
    IsSomeAnd o (λ event. IsResultOf job event r) → HasNoCut job → Next job at r
taken job (Some event) r at e h none = record { event = event; there = e; is = h.result none }
taken job None r at e h none = absurd h

pub next-of : (job its : Job) (at : Course) (r : EventResult) → HasNoCut job → its ≡ job →
    IsSomeAnd (slice_get at.given at.handed) (λ event. IsResultOf its event r) → Next job at r
next-of job its at r none same h =
    taken job (slice_get at.given at.handed) r at refl
    (subst (λ j. IsSomeAnd (slice_get at.given at.handed) (λ event. IsResultOf j event r)) same h) none

-- its report is the one that was put
pub shows : (job : Job) (brief : Bool) (at next : Course) (r : EventResult) → Next job at r → next ≡ moved_on at →
    (Puts : List ℕ → Type 0) → Puts (reports job brief (r ∷ [])) → IsShown job brief at next Puts
shows job brief at next r it moved Puts p = record {
  event = it.event;
  there = it.there;
  moved = moved;
  puts = subst Puts (ap (λ x. reports job brief (x ∷ [])) it.is) p;
}

pub room-next : (job : Job) (brief : Bool) (at : Course) (r : EventResult) → Next job at r → (Admits : List ℕ → Type 0) →
    ((event : EventRecord) → slice_get at.given at.handed ≡ Some event → Admits (report_on job brief event)) →
    Admits (reports job brief (r ∷ []))
room-next job brief at r it Admits room =
    subst (λ x. Admits (reports job brief (x ∷ []))) (sym it.is) (room it.event it.there)

-- on one thread

pub unmoved : (old new : LoopState) → new.desk ≡ old.desk → Stays old new
unmoved old new e = record {
  job_is = ap (λ (d : DeskState). d.job) e;
  slots_are = ap (λ (d : DeskState). d.slots) e;
  records = ap (λ (d : DeskState). d.admitted) e;
  closed = ap is_closed e;
}

pub handed-on : (old new : LoopState) (r : EventResult) → HandsOut old r new → course_of new ≡ moved_on (course_of old)
handed-on old new r h =
    course-is (course_of new) (moved_on (course_of old)) (ap (λ (d : DeskState). d.admitted) h.desk) h.handed

module _ {K : Type 0} (got : K → Option (List ℕ)) (faults : K → ℕ) (admits : K → List ℕ → Type 0) (job : Job) (brief : Bool)
    (k : K) where
  pub room-shown : (old new : LoopState) (r : EventResult) → HasNoCut job → old.desk.job ≡ job → HandsOut old r new →
      ((event : EventRecord) → slice_get old.desk.admitted old.handed ≡ Some event →
      admits k (report_on job brief event)) → admits k (reports job brief (r ∷ []))
  room-shown old new r none same h room =
      room-next job brief (course_of old) r (next-of job old.desk.job (course_of old) r none same h.result) (admits k) room

  pub shown : (old new : LoopState) (k' : K) (r : EventResult) (answer : Step) → HasNoCut job → old.desk.job ≡ job →
      HandsOut old r new → PutsAs got faults admits (reports job brief (r ∷ [])) k k' answer →
      StepSays got faults admits job brief old new k k' answer
  shown old new k' r answer none same h put = by answer put
    where
      it : Next job (course_of old) r
      it = next-of job old.desk.job (course_of old) r none same h.result

      shown_as : (Puts : List ℕ → Type 0) → Puts (reports job brief (r ∷ [])) → IsShownAt job brief old new Puts
      shown_as Puts p = record {
        shown = shows job brief (course_of old) (course_of new) r it (handed-on old new r h) Puts p;
        desk = h.desk;
      }

      by : (a : Step) → PutsAs got faults admits (reports job brief (r ∷ [])) k k' a →
          StepSays got faults admits job brief old new k k' a
      by Went p = inr (shown_as (IsSent got faults admits k k') p)
      by Broken p = shown_as (IsBroken got faults k k') p
      by NoMemory p = (unmoved old new h.desk, p)
      by Idle p = absurd p
      by Over p = absurd p
      by Lost p = absurd p
