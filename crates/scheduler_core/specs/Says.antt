-- What each call of a desk says: the answer, between the desk before and the desk after. Each relation gives exactly the entry that
-- the journal gets, or none, and the cause of each answer. Which slot, instance or algorithm is chosen is held by this alone, that
-- the journal stays a run.
use Rattle.std.specs.Prelude.{◌≡◌, ◌≢◌, ℕ, ◌+◌, ◌-◌, ◌<◌, ◌≤◌, Bool, true, false, is_some, is_none, List, [], ◌∷◌, ◌++◌, length, Option, Some, None, IsSomeAnd, slice_get}
use Rattle.std.specs.List.{list_all, list_any}
use Rattle.core_laws.specs.Closing.{is_last}
use Rattle.event_laws.specs.Uncut.{HasNoCut}
use Rattle.event_slots.specs.Slots.{claims_out}
use Rattle.expr_code.specs.Claim.{Claim as Work, Done as Executed, IsOfJob}
use Rattle.hive_model.specs.Agreement.{Agrees}
use Rattle.hive_model.specs.Event.{event_result, result_of}
use Rattle.hive_model.specs.EventRecord.{EventRecord}
use Rattle.hive_model.specs.History.{DeskState}
use Rattle.hive_model.specs.Job.{Job}
use Rattle.hive_model.specs.Machine.{Machine, Busy, Outstanding, claim_at}
use Rattle.hive_model.specs.Step.{busy_at, step}
use Rattle.hive_model.specs.declared.entry.Entry.{Entry}
use Rattle.hive_model.specs.declared.entry.Entry.TheVariants as entry
use Rattle.hive_model.specs.declared.product.Product.{Product}
use Rattle.scheduler_core.specs.State.{InState}
use Rattle.scheduler_core.specs.declared.answers.Admit.{Admit}
use Rattle.scheduler_core.specs.declared.answers.Admit.TheVariants.{At, Closed, Full, NoMemory as NoRoom}
use Rattle.scheduler_core.specs.declared.answers.Claim.{Claim}
use Rattle.scheduler_core.specs.declared.answers.Claim.TheVariants.{Job as Working, Idle, Over, NoMemory as NoneToWork}
use Rattle.scheduler_core.specs.declared.answers.Finished.{Finished}
use Rattle.scheduler_core.specs.declared.answers.Give.{Give}
use Rattle.scheduler_core.specs.declared.answers.Give.TheVariants.{Booked, NotOutstanding}
use Rattle.scheduler_core.specs.declared.answers.Recall.{Recall}
use Rattle.scheduler_core.specs.declared.answers.Recall.TheVariants.{Put, Nothing, NoMemory as NoScratch}
use Rattle.scheduler_core.specs.declared.answers.Said.{Said}
use Rattle.scheduler_core.specs.declared.answers.Said.TheVariants.{Now, Before}

abbrev pub opening_desk : Job → ℕ → DeskState
opening_desk job slots = record { job = job; slots = slots; journal = []; admitted = [] }

abbrev pub with_entry : DeskState → Entry → DeskState
with_entry d e = record d { journal = d.journal ++ e ∷ [] }

-- whether it was said that no further event comes
abbrev pub is_closed : DeskState → Bool
is_closed d = list_any is_last d.journal

-- in this state the entry may come next, or may not
abbrev pub MayCome : DeskState → Machine → Entry → Type 0
MayCome d m e = step d.job d.admitted d.journal m e ≢ None

abbrev pub MayNotCome : DeskState → Machine → Entry → Type 0
MayNotCome d m e = step d.job d.admitted d.journal m e ≡ None

abbrev pub is_empty : Machine → Bool
is_empty m = list_all (λ (slot : Option Busy). is_none slot) m.slots

abbrev pub is_full : Machine → Bool
is_full m = list_all (λ (slot : Option Busy). is_some slot) m.slots

-- admit

abbrev pub admitted_to : DeskState → ℕ → EventRecord → DeskState
admitted_to d slot event = record d {
  journal = d.journal ++ entry.Admit slot (length d.admitted + 1) ∷ [];
  admitted = d.admitted ++ event ∷ [];
}

abbrev pub AdmitSays : DeskState → EventRecord → Admit → DeskState → Type 0
AdmitSays d event (At slot place) after = (place ≡ length d.admitted + 1) × (after ≡ admitted_to d slot event)
AdmitSays d event (Closed back) after = (back ≡ event) × (after ≡ d) × (is_closed d ≡ true)
AdmitSays d event (Full back) after =
    (back ≡ event) × (after ≡ d) × (is_closed d ≡ false) × InState d (λ m. is_full m ≡ true)
AdmitSays d event (NoRoom back) after =
    (back ≡ event) × (after ≡ d) × (is_closed d ≡ false) × InState d (λ m. is_full m ≡ false)

-- claim

-- the claim of that ticket is outstanding in the slot, with this instance and these inputs
pub record IsOutIn (m : Machine) (slot ticket number : ℕ) (clone : Option ℕ) (inputs : List Product) : Type 0 where
  pub busy : Busy
  pub there : busy_at m slot ≡ Some busy
  pub claim : claim_at busy number ≡ Some (record { ticket = ticket; clone = clone; inputs = inputs })

pub record IsWorkOf (m : Machine) (slot : ℕ) (v : Work) : Type 0 where
  pub out : IsOutIn m slot v.ticket v.algorithm v.clone v.inputs
  pub place : v.place ≡ out.busy.place

pub record IsClaimed (d : DeskState) (worker : ℕ) (v : Work) (after : DeskState) : Type 0 where
  pub slot : ℕ
  pub appended : after ≡ with_entry d (entry.Claim slot v.algorithm v.clone worker)
  pub ticket : v.ticket ≡ length d.journal
  pub of_job : IsOfJob d.job v
  pub out : InState after (λ m. IsWorkOf m slot v)

abbrev pub NoClaimMayCome : DeskState → Machine → Type 0
NoClaimMayCome d m = (slot number : ℕ) (clone : Option ℕ) (worker : ℕ) →
    MayNotCome d m (entry.Claim slot number clone worker)

pub record AClaimMayCome (d : DeskState) (m : Machine) : Type 0 where
  pub slot : ℕ
  pub number : ℕ
  pub clone : Option ℕ
  pub worker : ℕ
  pub may : MayCome d m (entry.Claim slot number clone worker)

-- no event is in flight, and none comes
abbrev pub IsOver : Machine → Type 0
IsOver m = (m.closed ≡ true) × (is_empty m ≡ true)

pub record IsIdle (d : DeskState) (running : ℕ) (m : Machine) : Type 0 where
  pub none : NoClaimMayCome d m
  pub on : IsOver m → ⊥
  pub out : running ≡ claims_out m.slots

abbrev pub ClaimSays : DeskState → ℕ → Claim → DeskState → Type 0
ClaimSays d worker (Working v) after = IsClaimed d worker v after
ClaimSays d worker (Idle running) after = (after ≡ d) × InState d (IsIdle d running)
ClaimSays d worker Over after = (after ≡ d) × InState d IsOver
ClaimSays d worker NoneToWork after = (after ≡ d) × InState d (AClaimMayCome d)

-- where nothing can be claimed
abbrev pub IsNothing : Bool → List (Option Busy) → Claim → Type 0
IsNothing closed slots Over = (closed ≡ true) × (list_all (λ (slot : Option Busy). is_none slot) slots ≡ true)
IsNothing closed slots (Idle running) =
    ((closed ≡ true) × (list_all (λ (slot : Option Busy). is_none slot) slots ≡ true) → ⊥) × (running ≡ claims_out slots)
IsNothing closed slots (Working v) = ⊥
IsNothing closed slots NoneToWork = ⊥

-- done and back

-- the claim is outstanding here, as it was handed out
pub record IsOut (v : Work) (m : Machine) : Type 0 where
  pub slot : ℕ
  pub out : IsOutIn m slot v.ticket v.algorithm v.clone v.inputs

abbrev pub IsNotOut : Work → Machine → Type 0
IsNotOut v m = IsOut v m → ⊥

abbrev pub DoneSays : DeskState → Executed → Give Executed → DeskState → Type 0
DoneSays d v Booked after = (after ≡ with_entry d (entry.Done v.claim.ticket v.left.outcome)) × InState d (IsOut v.claim)
DoneSays d v (NotOutstanding back) after = (back ≡ v) × (after ≡ d) × InState d (IsNotOut v.claim)

abbrev pub BackSays : DeskState → Work → Give Work → DeskState → Type 0
BackSays d v Booked after = (after ≡ with_entry d (entry.Back v.ticket)) × InState d (IsOut v)
BackSays d v (NotOutstanding back) after = (back ≡ v) × (after ≡ d) × InState d (IsNotOut v)

-- recall

-- the claim in the slot has that ticket, and no other one has a smaller one
pub record IsLeastOut (ticket : ℕ) (m : Machine) : Type 0 where
  pub slot : ℕ
  pub number : ℕ
  pub busy : Busy
  pub there : busy_at m slot ≡ Some busy
  pub claim : Outstanding
  pub out : claim_at busy number ≡ Some claim
  pub is : claim.ticket ≡ ticket
  pub least : (other n : ℕ) (b : Busy) (c : Outstanding) → busy_at m other ≡ Some b → claim_at b n ≡ Some c →
      ticket ≤ c.ticket

pub record IsRecalled (d after : DeskState) : Type 0 where
  pub ticket : ℕ
  pub appended : after ≡ with_entry d (entry.Back ticket)
  pub least : InState d (IsLeastOut ticket)

abbrev pub RecallSays : DeskState → Recall → DeskState → Type 0
RecallSays d Put after = IsRecalled d after
RecallSays d Nothing after = (after ≡ d) × InState d (λ m. claims_out m.slots ≡ 0)
RecallSays d NoScratch after = (after ≡ d) × InState d (λ m. 0 < claims_out m.slots)

-- retire

-- an event that is settled ends: it goes with its place, its record and its result
pub record IsRetired (d : DeskState) (f : Finished) (after : DeskState) : Type 0 where
  pub slot : ℕ
  pub appended : after ≡ with_entry d (entry.Retire slot)
  pub there : InState d (λ m. IsSomeAnd (busy_at m slot) (λ b. b.place ≡ f.place))
  pub event : EventRecord
  pub record_is : slice_get d.admitted (f.place - 1) ≡ Some event
  pub agrees : Agrees d.job event f.result
  -- without cut nodes it is what the record comes to alone
  pub result : HasNoCut d.job → f.result ≡ event_result d.job event
  -- as the state has it from then on
  pub told : InState d (λ m. IsSomeAnd (busy_at m slot) (λ b. f.result ≡ result_of d.job event b.ran))

abbrev pub RetireSays : DeskState → Option Finished → DeskState → Type 0
RetireSays d (Some f) after = IsRetired d f after
RetireSays d None after = (after ≡ d) × InState d (λ m. (slot : ℕ) → MayNotCome d m (entry.Retire slot))

-- last

abbrev pub LastSays : DeskState → Said → DeskState → Type 0
LastSays d Now after = (after ≡ with_entry d entry.Last) × (is_closed d ≡ false)
LastSays d Before after = (after ≡ d) × (is_closed d ≡ true)
