-- Where nothing is handed out: the answer's cause.
use Rattle.std.proofs.Common.{◌≡◌, ◌≢◌, ℕ, Bool, true, List, length, slice_get, Option, Some, None, refl, ap, sym, ◌∙◌, subst}
use Rattle.std.proofs.lemmas.Option.{none-some}
use Rattle.event_slots.specs.Claiming.{NoneMayBeClaimed, OneMayBeClaimed, may_claim}
use Rattle.event_slots.specs.Slots.{AreSlotsOf, Slots}
use Rattle.hive_model.specs.Algorithm.{Algorithm}
use Rattle.hive_model.specs.EventRecord.{EventRecord}
use Rattle.hive_model.specs.History.{DeskState}
use Rattle.hive_model.specs.Job.{Job}
use Rattle.hive_model.specs.Machine.{Busy, Machine}
use Rattle.hive_model.specs.Step.{busy_at}
use Rattle.hive_model.specs.declared.entry.Entry.{Entry}
use Rattle.scheduler_core.proofs.Entries.{busy-spelled, claims, none-claims}
use Rattle.scheduler_core.proofs.Keeping.{in-state, seen_of}
use Rattle.scheduler_core.specs.Says.{AClaimMayCome, ClaimSays, IsIdle, IsNothing, IsOver, NoClaimMayCome}
use Rattle.scheduler_core.specs.State.{InState, IsKept}
use Rattle.scheduler_core.specs.declared.answers.Claim.{Claim}
use Rattle.scheduler_core.specs.declared.answers.Claim.TheVariants.{Job as Working, Idle, Over, NoMemory as NoneToWork}

none-of : (job : Job) (records : List EventRecord) (journal : List Entry) (it : Slots) (m : Machine) →
    NoneMayBeClaimed job m.slots → NoClaimMayCome (seen_of job records journal it) m
none-of job records journal it m none slot number clone worker =
    none-claims job records journal m slot number clone worker
    (λ b a there known. none slot number b a clone (busy-spelled m slot ∙ there) known)

pub nothing-says : (job seen : Job) (records : List EventRecord) (journal : List Entry) (old new : Slots)
    (closed : Bool) (owed spare worker : ℕ) (answer : Claim) (d : DeskState) →
    IsKept job records journal old closed owed spare → seen ≡ job → seen_of job records journal old ≡ d →
    ((slots : List (Option Busy)) → AreSlotsOf seen slots old →
    AreSlotsOf seen slots new × NoneMayBeClaimed seen slots) →
    ((j : Job) (slots : List (Option Busy)) → AreSlotsOf j slots new → IsNothing closed slots answer) →
    ClaimSays d worker answer (seen_of job records journal new)
nothing-says job seen records journal old new closed owed spare worker answer d k same sees none hears =
    let m = k.machine in
    let it = none m.slots (subst (λ j. AreSlotsOf j m.slots old) (sym same) k.slots) in
    let refused : NoneMayBeClaimed job m.slots = subst (λ j. NoneMayBeClaimed j m.slots) same it.1 in
    let seats : length new.seats ≡ length old.seats = it.0.as_many ∙ sym k.slots.as_many in
    let same_desk : seen_of job records journal new ≡ seen_of job records journal old =
    ap (λ n. record { job = job; slots = n; journal = journal; admitted = records }) seats in
    subst (λ e. ClaimSays e worker answer (seen_of job records journal new)) sees
    (subst (λ e. ClaimSays (seen_of job records journal old) worker answer e) (sym same_desk)
    (go answer (hears seen m.slots it.0) refused))
  where
    go : (a : Claim) → IsNothing closed k.machine.slots a → NoneMayBeClaimed job k.machine.slots →
        ClaimSays (seen_of job records journal old) worker a (seen_of job records journal old)
    go (Working v) h none_of = absurd h
    go NoneToWork h none_of = absurd h
    go Over h none_of =
        (refl, in-state (seen_of job records journal old) k.machine IsOver k.led (k.last ∙ h.0, h.1))
    go (Idle running) h none_of = (
      refl,
      in-state (seen_of job records journal old) k.machine
          (IsIdle (seen_of job records journal old) running) k.led
          (record {
            none = none-of job records journal old k.machine none_of;
            on = λ over. h.0 (sym k.last ∙ over.0, over.1);
            out = h.1;
          }),
    )

one-of : (job : Job) (records : List EventRecord) (journal : List Entry) (it : Slots) (m : Machine) →
    OneMayBeClaimed job m.slots → AClaimMayCome (seen_of job records journal it) m
one-of job records journal it m one = record {
  slot = one.slot;
  number = one.number;
  clone = one.clone;
  worker = 0;
  may = λ none. none-some _ (sym none
      ∙ claims job records journal m one.slot one.number one.clone 0 one.busy one.algorithm
      (sym (busy-spelled m one.slot) ∙ one.there) one.of_job one.may);
}

-- the desk is as before, and a claim may come
pub one-says : (job : Job) (records : List EventRecord) (journal : List Entry) (old : Slots)
    (closed : Bool) (owed spare worker : ℕ) (d after : DeskState) →
    (k : IsKept job records journal old closed owed spare) → seen_of job records journal old ≡ d → after ≡ d →
    OneMayBeClaimed job k.machine.slots → ClaimSays d worker NoneToWork after
one-says job records journal old closed owed spare worker d after k sees is one = (
  is,
  subst (λ e. InState e (AClaimMayCome e)) sees
      (in-state (seen_of job records journal old) k.machine (AClaimMayCome (seen_of job records journal old)) k.led
      (one-of job records journal old k.machine one)),
)
