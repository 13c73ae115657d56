-- A desk as contracts see it: the job, the number of slots, the journal and the records that were admitted. Its state is what the
-- journal's replay over these records comes to. What the desk itself keeps beside them is tied to that state.
use Rattle.std.specs.Prelude.{◌≡◌, ℕ, ◌+◌, ◌≤◌, Bool, if◌then◌else◌, is_some, List, length, Option, Some, IsSomeAnd, slice_get}
use Rattle.std.specs.List.{AllByRecursion, count_by}
use Rattle.core_laws.specs.Tickets.{HaveEntries}
use Rattle.event_slots.specs.Slots.{Slots, AreSlotsOf, claims_out}
use Rattle.hive_model.specs.Enabled.{inputs_in}
use Rattle.hive_model.specs.EventRecord.{EventRecord}
use Rattle.hive_model.specs.History.{DeskState, IsLegal}
use Rattle.hive_model.specs.Job.{Job}
use Rattle.hive_model.specs.Machine.{Machine, Busy, Outstanding, claim_at}
use Rattle.hive_model.specs.Replay.{replay}
use Rattle.hive_model.specs.Step.{busy_at}
use Rattle.hive_model.specs.Fits.{Fits}
use Rattle.hive_model.specs.Valid.{IsValidJob}
use Rattle.hive_model.specs.declared.entry.Entry.{Entry}
use Rattle.hive_model.specs.declared.entry.Entry.TheVariants.{Claim}
use Rattle.hive_model.specs.declared.limits.TheConstants.{MOST_SLOTS}

-- the state to which the journal has led
abbrev pub InState : DeskState → (Machine → Type 0) → Type 0
InState d P = IsSomeAnd (replay d.job d.slots d.admitted d.journal) P

-- what is true of each desk, whatever was called
pub record IsDesk (d : DeskState) : Type 0 where
  pub valid : IsValidJob d.job
  pub some : 1 ≤ d.slots
  pub few : d.slots ≤ MOST_SLOTS
  pub fitting : AllByRecursion (Fits d.job) d.admitted
  -- the journal is a run that admits all these records
  pub legal : IsLegal d

-- what the desk keeps

-- entries that are still to come whatever else does: that each event ends, that each claim is booked or put back, and Last
abbrev pub owed_by : Machine → ℕ
owed_by m =
    count_by (λ (slot : Option Busy). is_some slot) m.slots + claims_out m.slots + (if m.closed then 0 else 1)

-- a desk with these fields; `spare` is the room in its journal
pub record IsKept (job : Job) (records : List EventRecord) (journal : List Entry) (it : Slots) (closed : Bool)
    (owed spare : ℕ) : Type 0 where
  pub valid : IsValidJob job
  pub some : 1 ≤ length it.seats
  pub fitting : AllByRecursion (Fits job) records
  pub machine : Machine
  pub led : replay job (length it.seats) records journal ≡ Some machine
  pub all : machine.admitted ≡ length records
  pub last : machine.closed ≡ closed
  pub slots : AreSlotsOf job machine.slots it
  pub owes : owed ≡ owed_by machine
  pub room : owed ≤ spare

-- claims and their entries

-- the entry of that index claims this algorithm of the event in this slot
pub record NamesClaim (journal : List Entry) (ticket slot number : ℕ) : Type 0 where
  pub clone : Option ℕ
  pub worker : ℕ
  pub there : slice_get journal ticket ≡ Some (Claim slot number clone worker)

-- each claim that is outstanding has its own entry, and the inputs that the store of its event holds
pub record AreClaimsOf (job : Job) (journal : List Entry) (m : Machine) : Type 0 where
  pub entries : HaveEntries journal m
  pub inputs : (slot number : ℕ) (b : Busy) (c : Outstanding) → busy_at m slot ≡ Some b → claim_at b number ≡ Some c →
      IsSomeAnd (slice_get job.algorithms number) (λ a. c.inputs ≡ inputs_in b.store a.inputs)
