-- A desk stays one: after an entry that may come its fields are again those of the state to which the journal leads.
use Rattle.std.proofs.Common.{◌≡◌, ℕ, zero, suc, ◌+◌, ◌<◌, ◌≤◌, Bool, true, false, is_err, List, [], ◌∷◌, ◌++◌, length, set, Option, Some, None, OnOk, Result, Ok, Err, refl, ap, sym, ◌∙◌, subst, arith}
use Rattle.std.proofs.lemmas.Option.{same_Some}
use Rattle.std.specs.List.{AllByRecursion, list_any}
use Rattle.std.specs.Option.{option_and_then}
use Rattle.std.specs.Prelude.{IsSomeAnd}
use Rattle.core_laws.proofs.LastEntry.{last-closes}
use Rattle.core_laws.proofs.LongerJournals.{more-records, one-more-entry}
use Rattle.core_laws.specs.Closing.{is_last}
use Rattle.event_slots.specs.Slots.{AreSlotsOf, Slots}
use Rattle.hive_model.specs.EventRecord.{EventRecord}
use Rattle.hive_model.specs.Fits.{Fits}
use Rattle.hive_model.specs.History.{DeskState}
use Rattle.hive_model.specs.Job.{Job}
use Rattle.hive_model.specs.Machine.{Busy, Machine}
use Rattle.hive_model.specs.Replay.{replay}
use Rattle.hive_model.specs.Step.{step, with_slot}
use Rattle.hive_model.specs.Valid.{IsValidJob}
use Rattle.hive_model.specs.declared.entry.Entry.{Entry}
use Rattle.scheduler_core.specs.Says.{is_closed, with_entry}
use Rattle.scheduler_core.specs.State.{InState, IsDesk, IsKept, owed_by}

pub in-state : (d : DeskState) (m : Machine) (P : Machine → Type 0) →
    replay d.job d.slots d.admitted d.journal ≡ Some m → P m → InState d P
in-state d m P led it = subst (λ o. IsSomeAnd o P) (sym led) it

-- the desk with these fields, as contracts see it
abbrev pub seen_of : Job → List EventRecord → List Entry → Slots → DeskState
seen_of job records journal it =
    record { job = job; slots = length it.seats; journal = journal; admitted = records }

pub kept-desk : (job : Job) (records : List EventRecord) (journal : List Entry) (it : Slots) (closed : Bool)
    (owed spare : ℕ) → IsKept job records journal it closed owed spare → IsDesk (seen_of job records journal it)
kept-desk job records journal it closed owed spare k = record {
  valid = k.valid;
  some = k.some;
  few = omega (arith, k.slots.as_many, k.slots.few);
  fitting = k.fitting;
  legal = in-state (seen_of job records journal it) k.machine (λ m. m.admitted ≡ length records) k.led k.all;
}

-- the journal with one entry more

pub led-on : (job : Job) (n : ℕ) (records : List EventRecord) (journal : List Entry) (e : Entry) (m next : Machine) →
    replay job n records journal ≡ Some m → step job records journal m e ≡ Some next →
    replay job n records (journal ++ e ∷ []) ≡ Some next
led-on job n records journal e m next led steps =
    one-more-entry job n records journal e
    ∙ (ap (option_and_then (λ it. step job records journal it e)) led ∙ steps)

pub kept-on : (job : Job) (n : ℕ) (records : List EventRecord) (journal longer : List Entry) (e : Entry)
    (m next : Machine) (it : Slots) (closed : Bool) (owed spare : ℕ) →
    IsValidJob job → 1 ≤ n → AllByRecursion (Fits job) records → replay job n records journal ≡ Some m →
    step job records journal m e ≡ Some next → longer ≡ journal ++ e ∷ [] → length it.seats ≡ n →
    next.admitted ≡ length records → next.closed ≡ closed → AreSlotsOf job next.slots it → owed ≡ owed_by next →
    owed ≤ spare → IsKept job records longer it closed owed spare
kept-on job n records journal longer e m next it closed owed spare valid some fitting led steps grown seats all last
    slots owes room = record {
      valid = valid;
      some = omega (arith, some, seats);
      fitting = fitting;
      machine = next;
      led = ap (λ k. replay job k records longer) seats
          ∙ (ap (replay job n records) grown ∙ led-on job n records journal e m next led steps);
      all = all;
      last = last;
      slots = slots;
      owes = owes;
      room = room;
    }

-- as many seats as before, where there are as many slots
pub as-many : (job : Job) (slots others : List (Option Busy)) (old new : Slots) → AreSlotsOf job slots old →
    AreSlotsOf job others new → length others ≡ length slots → length new.seats ≡ length old.seats
as-many job slots others old new was now same = now.as_many ∙ (same ∙ sym was.as_many)

-- what contracts see of it

pub closed-told : (job : Job) (records : List EventRecord) (journal : List Entry) (it : Slots) (closed : Bool)
    (owed spare : ℕ) → IsKept job records journal it closed owed spare →
    is_closed (seen_of job records journal it) ≡ closed
closed-told job records journal it closed owed spare k =
    sym (last-closes job (length it.seats) records journal k.machine k.led) ∙ k.last

-- the desk after an entry, whose slots are as many
pub entered : (job : Job) (records : List EventRecord) (journal longer : List Entry) (e : Entry) (old new : Slots) →
    length new.seats ≡ length old.seats → longer ≡ journal ++ e ∷ [] →
    seen_of job records longer new ≡ with_entry (seen_of job records journal old) e
entered job records journal longer e old new same grown =
    ap (λ n. record { job = job; slots = n; journal = longer; admitted = records }) same
    ∙ ap (λ l. record { job = job; slots = length old.seats; journal = l; admitted = records }) grown

pub same-desk : (job : Job) (records : List EventRecord) (journal : List Entry) (old new : Slots) →
    length new.seats ≡ length old.seats → seen_of job records journal new ≡ seen_of job records journal old
same-desk job records journal old new same =
    ap (λ n. record { job = job; slots = n; journal = journal; admitted = records }) same

-- a job that was read through its handle

pub of-job : (seen job : Job) (slots : List (Option Busy)) (it : Slots) → seen ≡ job → AreSlotsOf job slots it →
    AreSlotsOf seen slots it
of-job seen job slots it same slots_of = subst (λ j. AreSlotsOf j slots it) (sym same) slots_of

pub went-well : {X Y : Type 0} (r : Result X Y) (P : Type 0) → OnOk r P → is_err r ≡ false → P
went-well (Ok x) P h e = h
went-well (Err y) P h e = absurd (cc)

-- room alone is no difference
pub same-fields : (job : Job) (records later : List EventRecord) (journal longer : List Entry) (old new : Slots) →
    later ≡ records → longer ≡ journal → length new.seats ≡ length old.seats →
    seen_of job later longer new ≡ seen_of job records journal old
same-fields job records later journal longer old new e f g =
    ap (λ l. record { job = job; slots = length new.seats; journal = longer; admitted = l }) e
    ∙ (ap (λ l. record { job = job; slots = length new.seats; journal = l; admitted = records }) f
    ∙ ap (λ n. record { job = job; slots = n; journal = journal; admitted = records }) g)

-- an entry that was pushed where room had been made
pub grown-as : (journal same longer : List Entry) (e pushed : Entry) → longer ≡ same ++ pushed ∷ [] →
    same ≡ journal → pushed ≡ e → longer ≡ journal ++ e ∷ []
grown-as journal same longer e pushed grown is as_told =
    grown ∙ (ap (λ l. l ++ pushed ∷ []) is ∙ ap (λ x. journal ++ x ∷ []) as_told)

-- the replay of the longer journal, as the desk after it sees it
pub led-seen : (job : Job) (records : List EventRecord) (journal longer : List Entry) (e : Entry) (m next : Machine)
    (old new : Slots) → replay job (length old.seats) records journal ≡ Some m →
    step job records journal m e ≡ Some next → longer ≡ journal ++ e ∷ [] → length new.seats ≡ length old.seats →
    replay job (length new.seats) records longer ≡ Some next
led-seen job records journal longer e m next old new led steps grown seats =
    ap (λ k. replay job k records longer) seats
    ∙ (ap (replay job (length old.seats) records) grown
    ∙ led-on job (length old.seats) records journal e m next led steps)
