-- An event that is admitted: the desk with one record more, and what a refusal says.
use Rattle.std.proofs.Common.{◌≡◌, ℕ, zero, suc, ◌+◌, ◌≤◌, Bool, true, false, is_some, List, [], ◌∷◌, ◌++◌, length, set, slice_get, Option, Some, None, refl, ap, sym, ◌∙◌, subst, arith}
use Rattle.std.proofs.lemmas.List.{length-append, length-set}
use Rattle.std.specs.List.{AllByRecursion, list_all}
use Rattle.core_laws.proofs.LongerJournals.{more-records}
use Rattle.event_slots.specs.Slots.{AreSlotsOf, Slots}
use Rattle.hive_model.specs.EventRecord.{EventRecord}
use Rattle.hive_model.specs.Fits.{Fits}
use Rattle.hive_model.specs.History.{DeskState}
use Rattle.hive_model.specs.Job.{Job}
use Rattle.hive_model.specs.Machine.{Busy, Machine, begun}
use Rattle.hive_model.specs.Step.{step, with_slot}
use Rattle.hive_model.specs.declared.entry.Entry.{Entry}
use Rattle.hive_model.specs.declared.entry.Entry.TheVariants.{Admit}
use Rattle.scheduler_core.proofs.Entries.{admits}
use Rattle.scheduler_core.proofs.Keeping.{as-many, closed-told, in-state, kept-on, of-job, seen_of}
use Rattle.scheduler_core.proofs.Owing.{begun-owes}
use Rattle.scheduler_core.specs.Says.{AdmitSays, admitted_to, is_closed, is_full}
use Rattle.scheduler_core.specs.State.{InState, IsKept}
use Rattle.scheduler_core.specs.declared.answers.Admit.TheVariants.{At, Closed, Full, NoMemory as NoRoom}

last-one : {X : Type 0} (xs : List X) (n : ℕ) (x : X) → n ≡ length xs → slice_get (xs ++ x ∷ []) n ≡ Some x
last-one [] zero x e = refl
last-one [] (suc n) x e = absurd (omega (arith, e))
last-one (y ∷ ys) zero x e = absurd (omega (arith, e))
last-one (y ∷ ys) (suc n) x e = last-one ys n x (omega (arith, e))

all-more : {X : Type 0} (P : X → Type 0) (xs : List X) (x : X) → AllByRecursion P xs → P x →
    AllByRecursion P (xs ++ x ∷ [])
all-more P [] x all it = (it, all)
all-more P (y ∷ ys) x all it = (all.0, all-more P ys x all.1 it)

-- what the slots answer where one was empty
abbrev pub Fills : Job → ℕ → EventRecord → ℕ → Slots → Slots → Type 0
Fills job place event slot old new =
    (slots : List (Option Busy)) → AreSlotsOf job slots old →
    (slice_get slots slot ≡ Some None) × AreSlotsOf job (set slots slot (Some (begun job place event))) new

pub admitted-kept : (job seen : Job) (records later : List EventRecord) (journal longer : List Entry)
    (old new : Slots) (closed : Bool) (owed spare room slot place : ℕ) (event : EventRecord) →
    IsKept job records journal old closed owed spare → seen ≡ job → closed ≡ false → Fits job event →
    place ≡ length records + 1 → Fills seen place event slot old new → later ≡ records ++ event ∷ [] →
    longer ≡ journal ++ Admit slot place ∷ [] → owed + 1 ≤ room →
    IsKept job later longer new closed (owed + 1) room
admitted-kept job seen records later journal longer old new closed owed spare room slot place event k same on fits
    place_is fills more grown enough =
    let m = k.machine in
    let here : Fills job place event slot old new = subst (λ j. Fills j place event slot old new) same fills in
    let it = here m.slots k.slots in
    let is : place ≡ m.admitted + 1 = place_is ∙ ap (λ n. n + 1) (sym k.all) in
    let next : Machine = record (with_slot m slot (Some (begun job place event))) { admitted = m.admitted + 1 } in
    let owes : next.admitted ≡ length (records ++ event ∷ []) =
    ap (λ n. n + 1) k.all ∙ sym (length-append records (event ∷ [])) in
    let steps : step job (records ++ event ∷ []) journal m (Admit slot place) ≡ Some next =
    subst
    (λ p. step job (records ++ event ∷ []) journal m (Admit slot p)
    ≡ Some (record (with_slot m slot (Some (begun job p event))) { admitted = m.admitted + 1 }))
    (sym is)
    (admits job (records ++ event ∷ []) journal m slot event it.0 (last-one records m.admitted event k.all)
    (k.last ∙ on)) in
    let owed_more = begun-owes m slot job place event it.0 in
    subst (λ r. IsKept job r longer new closed (owed + 1) room) (sym more)
    (kept-on job (length old.seats) (records ++ event ∷ []) journal longer (Admit slot place) m next new closed
    (owed + 1) room k.valid k.some (all-more (Fits job) records event k.fitting fits)
    (more-records job (length old.seats) records (event ∷ []) journal m k.led) steps grown
    (as-many job m.slots next.slots old new k.slots it.1
    (length-set m.slots slot (Some (begun job place event))))
    owes k.last it.1 (omega (arith, k.owes, owed_more)) enough)

pub admitted-says : (job seen : Job) (records later : List EventRecord) (journal longer : List Entry)
    (old new : Slots) (closed : Bool) (owed spare slot place : ℕ) (event : EventRecord) (d : DeskState) →
    IsKept job records journal old closed owed spare → seen ≡ job → seen_of job records journal old ≡ d →
    place ≡ length records + 1 → Fills seen place event slot old new → later ≡ records ++ event ∷ [] →
    longer ≡ journal ++ Admit slot place ∷ [] →
    seen_of job later longer new ≡ admitted_to d slot event
admitted-says job seen records later journal longer old new closed owed spare slot place event d k same sees place_is
    fills more grown =
    let m = k.machine in
    let here : Fills job place event slot old new = subst (λ j. Fills j place event slot old new) same fills in
    let it = here m.slots k.slots in
    let seats = as-many job m.slots (set m.slots slot (Some (begun job place event))) old new k.slots it.1
    (length-set m.slots slot (Some (begun job place event))) in
    subst (λ e. seen_of job later longer new ≡ admitted_to e slot event) sees
    (ap (λ n. record { job = job; slots = n; journal = longer; admitted = later }) seats
    ∙ (ap (λ l. record { job = job; slots = length old.seats; journal = l; admitted = later })
    (grown ∙ ap (λ p. journal ++ Admit slot p ∷ []) place_is)
    ∙ ap (λ l. record {
      job = job;
      slots = length old.seats;
      journal = journal ++ Admit slot (length records + 1) ∷ [];
      admitted = l;
    }) more))

-- the refusals

pub closed-says : (job : Job) (records : List EventRecord) (journal : List Entry) (it : Slots) (closed : Bool)
    (owed spare : ℕ) (event : EventRecord) (d : DeskState) →
    IsKept job records journal it closed owed spare → seen_of job records journal it ≡ d → closed ≡ true →
    AdmitSays d event (Closed event) d
closed-says job records journal it closed owed spare event d k sees is =
    (refl, refl, ap is_closed (sym sees) ∙ (closed-told job records journal it closed owed spare k ∙ is))

pub full-says : (job : Job) (records : List EventRecord) (journal : List Entry) (it : Slots) (closed : Bool)
    (owed spare : ℕ) (event : EventRecord) (d : DeskState) →
    IsKept job records journal it closed owed spare → seen_of job records journal it ≡ d → closed ≡ false →
    ((j : Job) (slots : List (Option Busy)) → AreSlotsOf j slots it → true ≡ list_all is_some slots) →
    AdmitSays d event (Full event) d
full-says job records journal it closed owed spare event d k sees on full = (
  refl,
  refl,
  ap is_closed (sym sees) ∙ (closed-told job records journal it closed owed spare k ∙ on),
  subst (λ e. InState e (λ m. is_full m ≡ true)) sees
      (in-state (seen_of job records journal it) k.machine (λ m. is_full m ≡ true) k.led
      (sym (full job k.machine.slots k.slots))),
)

-- the desk stands for the same as before, whatever room it has
pub no-room-says : (job : Job) (records : List EventRecord) (journal : List Entry) (it : Slots) (closed : Bool)
    (owed spare : ℕ) (event : EventRecord) (d after : DeskState) →
    IsKept job records journal it closed owed spare → seen_of job records journal it ≡ d → after ≡ d →
    closed ≡ false → ((j : Job) (slots : List (Option Busy)) → AreSlotsOf j slots it → false ≡ list_all is_some slots) →
    AdmitSays d event (NoRoom event) after
no-room-says job records journal it closed owed spare event d after k sees same on free = (
  refl,
  same,
  ap is_closed (sym sees) ∙ (closed-told job records journal it closed owed spare k ∙ on),
  subst (λ e. InState e (λ m. is_full m ≡ false)) sees
      (in-state (seen_of job records journal it) k.machine (λ m. is_full m ≡ false) k.led
      (sym (free job k.machine.slots k.slots))),
)
