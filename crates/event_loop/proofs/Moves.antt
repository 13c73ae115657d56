-- What each entry makes of the state of a desk, whether claims are outstanding in it or not.
use Rattle.std.proofs.Common.{◌≡◌, ℕ, ◌+◌, ◌-◌, ◌<◌, ◌≤◌, Bool, true, false, ◌||◌, is_some, is_none, List, [], ◌∷◌, ◌++◌, length, length-set, count_by, set, slice_get, Some, None, refl, ap, sym, ◌∙◌, arith}
use Rattle.std.proofs.lemmas.List.Folds.{list_any-append}
use Rattle.std.proofs.lemmas.Option.{same_Some}
use Rattle.std.specs.List.{list_any}
use Rattle.std.specs.Prelude.{IsSomeAnd}
use Rattle.core_laws.proofs.Lending.{changed, filled}
use Rattle.core_laws.proofs.LongerJournals.{more-records}
use Rattle.core_laws.proofs.OncePlaces.{run-once}
use Rattle.core_laws.proofs.States.{replay-sound}
use Rattle.core_laws.specs.Closing.{is_last}
use Rattle.core_laws.specs.Once.{ended_at}
use Rattle.core_laws.specs.Sound.{IsSound}
use Rattle.event_slots.specs.Slots.{claims_of, claims_out}
use Rattle.hive_model.specs.Event.{result_of}
use Rattle.hive_model.specs.EventRecord.{EventRecord}
use Rattle.hive_model.specs.EventResult.{EventResult}
use Rattle.hive_model.specs.History.{DeskState}
use Rattle.hive_model.specs.Job.{Job}
use Rattle.hive_model.specs.Machine.{Busy, Finished, Machine, begun}
use Rattle.hive_model.specs.Replay.{replay}
use Rattle.hive_model.specs.Step.{busy_at, step, with_slot}
use Rattle.hive_model.specs.declared.entry.Entry.{Entry}
use Rattle.hive_model.specs.declared.entry.Entry.TheVariants as entry
use Rattle.scheduler_core.proofs.Claims.{told}
use Rattle.scheduler_core.specs.Says.{IsRetired, admitted_to, is_closed, with_entry}
use Rattle.scheduler_core.specs.State.{IsDesk}
use Rattle.scheduler_core.specs.declared.answers.Finished.{Finished as Answer}
use Rattle.event_loop.proofs.Counting.{count-replicate, count-replicate_none}
use Rattle.event_loop.proofs.Effects.{IsAlike, back-effect, claim-effect, done-effect}
use Rattle.event_loop.proofs.Entries.{admit-step, back-step, claim-step, done-step, last-step, retire-step}
use Rattle.event_loop.proofs.Ran.{entered, keeps-entry}
use Rattle.event_loop.proofs.Window.{not-ended, one-busy}
use Rattle.event_loop.specs.Loop.{work_in, work_of}
use Rattle.event_loop.specs.Running.{DeskKeeps}

-- the state to which the journal has led
pub record IsLed (d : DeskState) (m : Machine) : Type 0 where
  pub led : replay d.job d.slots d.admitted d.journal ≡ Some m
  pub slots : length m.slots ≡ d.slots

-- as many records as the desk has were admitted
pub all-admitted : (d : DeskState) (m : Machine) → IsDesk d →
    replay d.job d.slots d.admitted d.journal ≡ Some m →
    m.admitted ≡ length d.admitted
all-admitted d m desk led =
    told (replay d.job d.slots d.admitted d.journal) (λ n. n.admitted ≡ length d.admitted) m led desk.legal

-- a claim, or what came of one

-- the entry is a Claim, a Done or a Back
abbrev pub is_of_claim : Entry → Bool
is_of_claim (entry.Admit slot place) = false
is_of_claim (entry.Claim slot number clone worker) = true
is_of_claim (entry.Done ticket outcome) = true
is_of_claim (entry.Back ticket) = true
is_of_claim (entry.Retire slot) = false
is_of_claim entry.Last = false

alike : (job : Job) (records : List EventRecord) (past : List Entry) (m next : Machine) (e : Entry) →
    IsSound job records m → is_of_claim e ≡ true → step job records past m e ≡ Some next → IsAlike m next
alike job records past m next (entry.Claim slot number clone worker) sound kind steps =
    (claim-effect job records past m next slot number clone sound
    (claim-step job records past m next slot number clone worker steps)).alike
alike job records past m next (entry.Done ticket outcome) sound kind steps =
    (done-effect job records m next sound (done-step job records past m next ticket outcome steps)).alike
alike job records past m next (entry.Back ticket) sound kind steps =
    (back-effect m next (back-step job records past m next ticket steps)).alike
alike job records past m next (entry.Admit slot place) sound kind steps = absurd (cc)
alike job records past m next (entry.Retire slot) sound kind steps = absurd (cc)
alike job records past m next entry.Last sound kind steps = absurd (cc)

-- no event ended, and none was admitted
pub record HasMoved (d : DeskState) (m : Machine) (after : DeskState) : Type 0 where
  pub next : Machine
  pub now : IsLed after next
  pub finished : next.finished ≡ m.finished

pub has-moved : (d after : DeskState) (m : Machine) (e : Entry) → IsDesk d → IsLed d m → after ≡ with_entry d e →
    IsDesk after → is_of_claim e ≡ true → HasMoved d m after
has-moved d after m e desk at appended after_desk kind =
    let n = entered d after m e at.led appended after_desk in
    let sound = replay-sound d.job d.slots d.admitted d.journal m desk.valid.numbered at.led in
    let same = alike d.job d.admitted d.journal m n.next e sound kind n.steps in
    record {
      next = n.next;
      now = record {
        led = n.led;
        slots = same.slots ∙ (at.slots ∙ sym (ap (λ (x : DeskState). x.slots) appended));
      };
      finished = same.finished;
    }

-- an event took a slot

pub record HasBegun (d : DeskState) (m : Machine) (after : DeskState) : Type 0 where
  pub next : Machine
  pub now : IsLed after next
  pub finished : next.finished ≡ m.finished
  pub claims : claims_out next.slots ≡ claims_out m.slots
  pub work : work_in next ≡ work_in m + 1 + length d.job.algorithms

begun-claims : (job : Job) (place : ℕ) (event : EventRecord) →
    count_by is_some (begun job place event).claims ≡ 0
unfolding begun
begun-claims job place event = count-replicate_none is_some (length job.algorithms) None refl

begun-ran : (job : Job) (place : ℕ) (event : EventRecord) →
    count_by is_none (begun job place event).ran ≡ length job.algorithms
unfolding begun
begun-ran job place event = count-replicate is_none (length job.algorithms) None refl

pub has-begun : (d after : DeskState) (m : Machine) (slot : ℕ) (event : EventRecord) → IsLed d m →
    after ≡ admitted_to d slot event → IsDesk after → HasBegun d m after
has-begun d after m slot event at appended desk =
    let records = d.admitted ++ event ∷ [] in
    let place = length d.admitted + 1 in
    let before : DeskState = record d { admitted = records } in
    let e = entered before after m (entry.Admit slot place)
    (more-records d.job d.slots d.admitted (event ∷ []) d.journal m at.led) appended desk in
    let s = admit-step d.job records d.journal m e.next slot place e.steps in
    let b = begun d.job place s.event in
    let slots : e.next.slots ≡ set m.slots slot (Some b) = sym (ap (λ (n : Machine). n.slots) s.is) in
    let claims : claims_out (set m.slots slot (Some b)) + 0 ≡ claims_out m.slots + count_by is_some b.claims =
    filled claims_of m slot (Some b) s.empty in
    let out : claims_out e.next.slots ≡ claims_out (set m.slots slot (Some b)) = ap claims_out slots in
    let work : work_in (with_slot m slot (Some b)) + 0 ≡ work_in m + (1 + count_by is_none b.ran) =
    filled work_of m slot (Some b) s.empty in
    let left : work_in e.next ≡ work_in (with_slot m slot (Some b)) = sym (ap work_in s.is) in
    record {
      next = e.next;
      now = record {
        led = e.led;
        slots = ap length slots ∙ (length-set m.slots slot (Some b) ∙ (at.slots
            ∙ sym (ap (λ (x : DeskState). x.slots) appended)));
      };
      finished = sym (ap (λ (n : Machine). n.finished) s.is);
      claims = omega (arith, out, claims, begun-claims d.job place s.event);
      work = omega (arith, left, work, begun-ran d.job place s.event);
    }

-- no further event comes

pub record HasClosed (d : DeskState) (m : Machine) (after : DeskState) : Type 0 where
  pub next : Machine
  pub now : IsLed after next
  pub finished : next.finished ≡ m.finished
  pub claims : claims_out next.slots ≡ claims_out m.slots
  pub work : work_in next ≡ work_in m
  pub closed : is_closed after ≡ true

or-true : (b : Bool) → (b || (true || false)) ≡ true
or-true true = refl
or-true false = refl

pub has-closed : (d after : DeskState) (m : Machine) → IsLed d m → after ≡ with_entry d entry.Last →
    IsDesk after → HasClosed d m after
has-closed d after m at appended desk =
    let e = entered d after m entry.Last at.led appended desk in
    let is = last-step d.job d.admitted d.journal m e.next e.steps in
    let same : e.next.slots ≡ m.slots = sym (ap (λ (n : Machine). n.slots) is) in
    record {
      next = e.next;
      now = record {
        led = e.led;
        slots = ap length same ∙ (at.slots ∙ sym (ap (λ (x : DeskState). x.slots) appended));
      };
      finished = sym (ap (λ (n : Machine). n.finished) is);
      claims = ap claims_out same;
      work = sym (ap work_in is);
      closed = ap is_closed appended
          ∙ (list_any-append is_last d.journal (entry.Last ∷ []) ∙ or-true (list_any is_last d.journal));
    }

-- an event ended

-- the event as the state has it
abbrev pub ending : Answer → Finished
ending f = record { place = f.place; result = f.result }

same-end : (p q : ℕ) (r s : EventResult) → p ≡ q → r ≡ s →
    ◌≡◌ {A = Finished} (record { place = p; result = r }) (record { place = q; result = s })
same-end p q r s e f =
    ap (λ (n : ℕ). record { place = n; result = r }) e ∙ ap
    (λ (x : EventResult). record { place = q; result = x }) f

pub record HasEnded (d : DeskState) (m : Machine) (f : Answer) (after : DeskState) : Type 0 where
  pub next : Machine
  pub now : IsLed after next
  pub finished : next.finished ≡ m.finished ++ ending f ∷ []
  pub claims : claims_out next.slots ≤ claims_out m.slots
  pub work : work_in next < work_in m
  pub keeps : DeskKeeps d after
  pub some : 0 < f.place
  pub known : f.place ≤ length d.admitted
  pub first : count_by (ended_at f.place) m.finished ≡ 0
  pub fewer : length m.finished + 1 ≤ length d.admitted

pub has-ended : (d after : DeskState) (m : Machine) (f : Answer) → IsDesk d → IsLed d m → IsRetired d f after →
    IsDesk after → HasEnded d m f after
has-ended d after m f desk at it after_desk =
    let state = replay d.job d.slots d.admitted d.journal in
    let e = entered d after m (entry.Retire it.slot) at.led it.appended after_desk in
    let s = retire-step d.job d.admitted d.journal m e.next it.slot e.steps in
    let b = s.busy in
    let once = run-once d.job d.slots d.admitted d.journal m at.led in
    let own = (replay-sound d.job d.slots d.admitted d.journal m desk.valid.numbered at.led).busy it.slot b
    s.there in
    let all = all-admitted d m desk at.led in
    let place : b.place ≡ f.place = told (busy_at m it.slot) (λ (x : Busy). x.place ≡ f.place) b s.there
    (told state (λ n. IsSomeAnd (busy_at n it.slot) (λ (x : Busy). x.place ≡ f.place)) m at.led it.there) in
    let result : f.result ≡ result_of d.job it.event b.ran =
    told (busy_at m it.slot) (λ (x : Busy). f.result ≡ result_of d.job it.event x.ran) b s.there
    (told state (λ n. IsSomeAnd (busy_at n it.slot) (λ (x : Busy). f.result ≡ result_of d.job it.event x.ran))
    m
    at.led it.told) in
    let event : it.event ≡ s.event = same_Some it.event s.event
    (sym it.record_is ∙ (sym (ap (λ (p : ℕ). slice_get d.admitted (p - 1)) place) ∙ s.record_is)) in
    let keeps = keeps-entry d after (entry.Retire it.slot) it.appended refl in
    let claims : claims_out (set m.slots it.slot None) + count_by is_some b.claims ≡ claims_out m.slots + 0 =
    changed claims_of m it.slot b None s.there in
    let work : work_in (with_slot m it.slot None) + (1 + count_by is_none b.ran) ≡ work_in m + 0 =
    changed work_of m it.slot b None s.there in
    let slots : e.next.slots ≡ set m.slots it.slot None = sym (ap (λ (n : Machine). n.slots) s.is) in
    let less : work_in e.next ≡ work_in (with_slot m it.slot None) = sym (ap work_in s.is) in
    let out : claims_out e.next.slots ≡ claims_out (set m.slots it.slot None) = ap claims_out slots in
    record {
      next = e.next;
      now = record {
        led = e.led;
        slots = ap length slots ∙ (length-set m.slots it.slot None ∙ (at.slots ∙ sym keeps.slots));
      };
      finished = sym (ap (λ (n : Machine). n.finished) s.is)
          ∙ ap (λ (x : Finished). m.finished ++ x ∷ [])
          (same-end b.place f.place (result_of d.job s.event b.ran)
          f.result place (sym (result ∙ ap (λ (x : EventRecord). result_of d.job x b.ran) event)));
      claims = omega (arith, out, claims);
      work = omega (arith, less, work);
      keeps = keeps;
      some = omega (arith, own.some, place);
      known = omega (arith, own.known, place, all);
      first = sym (ap (λ (p : ℕ). count_by (ended_at p) m.finished) place)
          ∙ not-ended m it.slot b once s.there own.some own.known;
      fewer = omega (arith, one-busy m it.slot b once s.there, all);
    }
