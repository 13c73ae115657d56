-- What an entry makes of a state in which it may come, and where it may not.
use Rattle.std.proofs.Common.{◌≡◌, ℕ, ◌+◌, ◌-◌, nat_eq, Bool, true, false, not, ◌&&◌, List, [], ◌∷◌, ◌++◌, length, slice_get, Option, Some, None, refl, ap, ◌∙◌}
use Rattle.std.proofs.lemmas.Bool.{eq-eqb}
use Rattle.std.specs.Option.{option_and_then, option_flatten}
use Rattle.event_slots.specs.Claiming.{may_claim}
use Rattle.event_slots.specs.Slots.{busy_in}
use Rattle.hive_model.specs.Algorithm.{Algorithm}
use Rattle.hive_model.specs.Event.{result_of}
use Rattle.hive_model.specs.EventRecord.{EventRecord}
use Rattle.hive_model.specs.Execution.{execution}
use Rattle.hive_model.specs.Job.{Job}
use Rattle.hive_model.specs.Machine.{Busy, Machine, Outstanding, begun, claim_at}
use Rattle.hive_model.specs.Same.{same_outcome}
use Rattle.hive_model.specs.Step.{Found, admitting, busy_at, claimed, claiming, completed, completing, found, found_by, is_settled, putting_back, retiring, step, when, with_slot}
use Rattle.hive_model.specs.declared.entry.Entry.{Entry}
use Rattle.hive_model.specs.declared.entry.Entry.TheVariants as entry
use Rattle.hive_model.specs.declared.outcome.Outcome.{Outcome}

when-true : {T : Type 0} (b : Bool) (it : T) → b ≡ true → when b it ≡ Some it
when-true true it h = refl
when-true false it h = absurd (cc)

when-false : {T : Type 0} (b : Bool) (it : T) → b ≡ false → ◌≡◌ {A = Option T} (when b it) None
when-false true it h = absurd (cc)
when-false false it h = refl

spelled : (o : Option (Option Busy)) → option_flatten o ≡ option_and_then (λ (it : Option Busy). it) o
spelled None = refl
spelled (Some None) = refl
spelled (Some (Some b)) = refl

pub busy-spelled : (m : Machine) (slot : ℕ) → busy_in m.slots slot ≡ busy_at m slot
busy-spelled m slot = spelled (slice_get m.slots slot)

-- the entries one by one

pub admits : (job : Job) (records : List EventRecord) (past : List Entry) (m : Machine) (slot : ℕ)
    (event : EventRecord) →
    slice_get m.slots slot ≡ Some None → slice_get records m.admitted ≡ Some event → m.closed ≡ false →
    step job records past m (entry.Admit slot (m.admitted + 1))
    ≡ Some (record (with_slot m slot (Some (begun job (m.admitted + 1) event))) { admitted = m.admitted + 1 })
unfolding step
admits job records past m slot event empty there on =
    ap (λ o. admitting job m slot (m.admitted + 1) o (slice_get records m.admitted)) empty
    ∙ (ap (λ o. admitting job m slot (m.admitted + 1) (Some None) o) there
    ∙ when-true _ _ (ap (λ c. not c && nat_eq (m.admitted + 1) (m.admitted + 1)) on ∙ eq-eqb (m.admitted + 1) (m.admitted + 1) refl))

pub claims : (job : Job) (records : List EventRecord) (past : List Entry) (m : Machine) (slot number : ℕ)
    (clone : Option ℕ) (worker : ℕ) (b : Busy) (a : Algorithm) →
    busy_at m slot ≡ Some b → slice_get job.algorithms number ≡ Some a →
    may_claim job m.slots b number a clone ≡ true →
    step job records past m (entry.Claim slot number clone worker)
    ≡ Some (with_slot m slot (Some (claimed b number a (length past) clone)))
unfolding step
claims job records past m slot number clone worker b a there known may =
    ap (λ o. claiming job (length past) m slot number clone o (slice_get job.algorithms number)) there
    ∙ (ap (λ o. claiming job (length past) m slot number clone (Some b) o) known ∙ when-true _ _ may)

pub none-claims : (job : Job) (records : List EventRecord) (past : List Entry) (m : Machine) (slot number : ℕ)
    (clone : Option ℕ) (worker : ℕ) →
    ((b : Busy) (a : Algorithm) → busy_at m slot ≡ Some b → slice_get job.algorithms number ≡ Some a →
    may_claim job m.slots b number a clone ≡ false) →
    step job records past m (entry.Claim slot number clone worker) ≡ None
unfolding step
none-claims job records past m slot number clone worker none =
    go (busy_at m slot) (slice_get job.algorithms number) refl refl
  where
    go : (o : Option Busy) (p : Option Algorithm) → busy_at m slot ≡ o → slice_get job.algorithms number ≡ p →
        claiming job (length past) m slot number clone o p ≡ None
    go (Some b) (Some a) e f = when-false _ _ (none b a e f)
    go (Some b) None e f = refl
    go None p e f = refl

abbrev found_as : ℕ → ℕ → Busy → Outstanding → Found
found_as slot number b c = record { slot = slot; busy = b; number = number; claim = c }

pub finds : (past : List Entry) (m : Machine) (ticket slot number : ℕ) (clone : Option ℕ) (worker : ℕ) (b : Busy)
    (c : Outstanding) →
    slice_get past ticket ≡ Some (entry.Claim slot number clone worker) → busy_at m slot ≡ Some b →
    claim_at b number ≡ Some c → c.ticket ≡ ticket →
    found past m ticket ≡ Some (record { slot = slot; busy = b; number = number; claim = c })
unfolding found
finds past m ticket slot number clone worker b c entered there mine is =
    ap (option_and_then (found_by m ticket)) entered
    ∙ (ap (option_and_then (λ (x : Busy). option_and_then (λ (y : Outstanding). when (nat_eq y.ticket ticket)
    (found_as slot number x y)) (claim_at x number))) there
    ∙ (ap (option_and_then (λ (y : Outstanding). when (nat_eq y.ticket ticket)
    (found_as slot number b y))) mine
    ∙ when-true _ _ (eq-eqb c.ticket ticket is)))

pub dones : (job : Job) (records : List EventRecord) (past : List Entry) (m : Machine) (ticket : ℕ)
    (outcome : Outcome) (f : Found) (a : Algorithm) →
    found past m ticket ≡ Some f → slice_get job.algorithms f.number ≡ Some a →
    same_outcome outcome (execution a f.claim.inputs).outcome ≡ true →
    step job records past m (entry.Done ticket outcome)
    ≡ Some (with_slot m f.slot (Some (completed f.busy f.number a (execution a f.claim.inputs))))
unfolding step
dones job records past m ticket outcome f a out known same =
    ap (option_and_then (λ (it : Found). option_and_then (completing m outcome it) (slice_get job.algorithms it.number))) out
    ∙ (ap (option_and_then (completing m outcome f)) known ∙ when-true _ _ same)

pub backs : (job : Job) (records : List EventRecord) (past : List Entry) (m : Machine) (ticket : ℕ) (f : Found) →
    found past m ticket ≡ Some f →
    step job records past m (entry.Back ticket) ≡ Some (putting_back m f)
unfolding step
backs job records past m ticket f out = ap (option_and_then (λ (it : Found). Some (putting_back m it))) out

pub retires : (job : Job) (records : List EventRecord) (past : List Entry) (m : Machine) (slot : ℕ) (b : Busy)
    (event : EventRecord) →
    busy_at m slot ≡ Some b → slice_get records (b.place - 1) ≡ Some event → is_settled job b ≡ true →
    step job records past m (entry.Retire slot)
    ≡ Some (record (with_slot m slot None) {
      finished =
          m.finished ++ record { place = b.place; result = result_of job event b.ran } ∷ [];
    })
unfolding step
retires job records past m slot b event there known rests =
    ap (option_and_then (λ (it : Busy). option_and_then (retiring job m slot it) (slice_get records (it.place - 1)))) there
    ∙ (ap (option_and_then (retiring job m slot b)) known ∙ when-true _ _ rests)

pub none-retires : (job : Job) (records : List EventRecord) (past : List Entry) (m : Machine) (slot : ℕ) →
    ((b : Busy) → busy_at m slot ≡ Some b → is_settled job b ≡ false) →
    step job records past m (entry.Retire slot) ≡ None
unfolding step
none-retires job records past m slot none = go (busy_at m slot) refl
  where
    with_record : (b : Busy) (o : Option EventRecord) → is_settled job b ≡ false →
        option_and_then (retiring job m slot b) o ≡ None
    with_record b None h = refl
    with_record b (Some event) h = when-false _ _ h

    go : (o : Option Busy) → busy_at m slot ≡ o →
        option_and_then (λ (b : Busy). option_and_then (retiring job m slot b) (slice_get records (b.place - 1))) o ≡ None
    go None e = refl
    go (Some b) e = with_record b (slice_get records (b.place - 1)) (none b e)

pub lasts : (job : Job) (records : List EventRecord) (past : List Entry) (m : Machine) → m.closed ≡ false →
    step job records past m entry.Last ≡ Some (record m { closed = true })
unfolding step
lasts job records past m on = when-true _ _ (ap not on)
