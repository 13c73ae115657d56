-- A claim that comes back: it is found by its ticket, or is out nowhere, and it goes from its event.
use Rattle.std.proofs.Common.{◌≡◌, ℕ, ◌+◌, ◌-◌, ◌<◌, ◌≤◌, Bool, is_some, List, [], ◌∷◌, ◌++◌, count_by, length, set, slice_get, Option, Some, None, refl, ap, sym, ◌∙◌, subst, arith}
use Rattle.std.proofs.lemmas.List.{length-set}
use Rattle.std.specs.Prelude.{IsSomeAnd}
use Rattle.core_laws.proofs.OwnEntries.{own-entries}
use Rattle.event_slots.specs.Booking.{CanReturn}
use Rattle.event_slots.specs.Slots.{AreSlotsOf, Slots, busy_in}
use Rattle.expr_code.specs.Claim.{Claim as Work}
use Rattle.hive_model.specs.Algorithm.{Algorithm}
use Rattle.hive_model.specs.EventRecord.{EventRecord}
use Rattle.hive_model.specs.History.{DeskState}
use Rattle.hive_model.specs.Job.{Job}
use Rattle.hive_model.specs.Machine.{Busy, Machine, Outstanding, claim_at}
use Rattle.hive_model.specs.Replay.{replay}
use Rattle.hive_model.specs.Scratch.{IsMadeFor}
use Rattle.hive_model.specs.Step.{Found, busy_at, found, step, with_slot}
use Rattle.hive_model.specs.declared.entry.Entry.{Entry}
use Rattle.hive_model.specs.declared.entry.Entry.TheVariants.{Back}
use Rattle.hive_model.specs.declared.lent.Lent.{Lent}
use Rattle.hive_model.specs.declared.product.Product.{Product}
use Rattle.scheduler_core.proofs.Claims.{given, known-claims}
use Rattle.scheduler_core.proofs.Entries.{backs, busy-spelled, finds}
use Rattle.scheduler_core.proofs.Keeping.{as-many, entered, in-state, kept-on, of-job, seen_of}
use Rattle.scheduler_core.proofs.Owing.{one-gone, owed-changed}
use Rattle.scheduler_core.proofs.Undone.{Returns, without}
use Rattle.scheduler_core.specs.Says.{IsNotOut, IsOut, IsOutIn, with_entry}
use Rattle.scheduler_core.specs.State.{AreClaimsOf, InState, IsKept, owed_by}

-- what was asked for by its parts is the claim that came back

pub record IsAsked (job seen : Job) (journal told : List Entry) (v : Work) (ticket number : ℕ) (clone : Option ℕ)
    (inputs : List Product) : Type 0 where
  pub same : seen ≡ job
  pub journal_is : told ≡ journal
  pub ticket_is : ticket ≡ v.ticket
  pub number_is : number ≡ v.algorithm
  pub clone_is : clone ≡ v.clone
  pub inputs_are : inputs ≡ v.inputs

as-asked : (m : Machine) (slot : ℕ) (v : Work) (ticket number : ℕ) (clone : Option ℕ) (inputs : List Product) →
    ticket ≡ v.ticket → number ≡ v.algorithm → clone ≡ v.clone → inputs ≡ v.inputs →
    IsOutIn m slot ticket number clone inputs ≡ IsOutIn m slot v.ticket v.algorithm v.clone v.inputs
as-asked m slot v ticket number clone inputs e f g h =
    ap (λ t. IsOutIn m slot t number clone inputs) e
    ∙ (ap (λ n. IsOutIn m slot v.ticket n clone inputs) f
    ∙ (ap (λ k. IsOutIn m slot v.ticket v.algorithm k inputs) g
    ∙ ap (λ i. IsOutIn m slot v.ticket v.algorithm v.clone i) h))

about-claims : (job seen : Job) (records : List EventRecord) (journal told : List Entry) (it : Slots)
    (closed : Bool) (owed spare : ℕ) → (k : IsKept job records journal it closed owed spare) →
    seen ≡ job → told ≡ journal → AreClaimsOf seen told k.machine
about-claims job seen records journal told it closed owed spare k same is =
    let known = known-claims job (length it.seats) records journal k.machine k.valid k.led in
    subst (λ j. AreClaimsOf j told k.machine) (sym same)
    (subst (λ l. AreClaimsOf job l k.machine) (sym is) known)

abbrev pub Finds : Job → List Entry → ℕ → ℕ → Option ℕ → List Product → Slots → ℕ → Type 0
Finds job journal ticket number clone inputs it slot =
    (m : Machine) → AreClaimsOf job journal m → AreSlotsOf job m.slots it → IsOutIn m slot ticket number clone inputs

abbrev pub FindsNone : Job → List Entry → ℕ → ℕ → Option ℕ → List Product → Slots → Type 0
FindsNone job journal ticket number clone inputs it =
    (m : Machine) → AreClaimsOf job journal m → AreSlotsOf job m.slots it → (slot : ℕ) →
    IsOutIn m slot ticket number clone inputs → ⊥

pub found-out : (job seen : Job) (records : List EventRecord) (journal told : List Entry) (it : Slots)
    (closed : Bool) (owed spare slot ticket number : ℕ) (clone : Option ℕ) (inputs : List Product) (v : Work) →
    (k : IsKept job records journal it closed owed spare) →
    IsAsked job seen journal told v ticket number clone inputs →
    Finds seen told ticket number clone inputs it slot →
    IsOutIn k.machine slot v.ticket v.algorithm v.clone v.inputs
found-out job seen records journal told it closed owed spare slot ticket number clone inputs v k asked found_it =
    let known = about-claims job seen records journal told it closed owed spare k asked.same asked.journal_is in
    subst (λ T. T)
    (as-asked k.machine slot v ticket number clone inputs asked.ticket_is asked.number_is asked.clone_is
    asked.inputs_are)
    (found_it k.machine known (of-job seen job k.machine.slots it asked.same k.slots))

pub none-found : (job seen : Job) (records : List EventRecord) (journal told : List Entry) (it : Slots)
    (closed : Bool) (owed spare ticket number : ℕ) (clone : Option ℕ) (inputs : List Product) (v : Work)
    (d : DeskState) →
    IsKept job records journal it closed owed spare → seen_of job records journal it ≡ d →
    IsAsked job seen journal told v ticket number clone inputs →
    FindsNone seen told ticket number clone inputs it → InState d (IsNotOut v)
none-found job seen records journal told it closed owed spare ticket number clone inputs v d k sees asked none =
    let known = about-claims job seen records journal told it closed owed spare k asked.same asked.journal_is in
    subst (λ e. InState e (IsNotOut v)) sees
    (in-state (seen_of job records journal it) k.machine (IsNotOut v) k.led
    (λ out. none k.machine known (of-job seen job k.machine.slots it asked.same k.slots) out.slot
    (subst (λ T. T)
    (sym (as-asked k.machine out.slot v ticket number clone inputs asked.ticket_is asked.number_is asked.clone_is
    asked.inputs_are))
    out.out)))

pub out-told : (job : Job) (records : List EventRecord) (journal : List Entry) (it : Slots) (closed : Bool)
    (owed spare slot : ℕ) (v : Work) (d : DeskState) → (k : IsKept job records journal it closed owed spare) →
    seen_of job records journal it ≡ d → IsOutIn k.machine slot v.ticket v.algorithm v.clone v.inputs →
    InState d (IsOut v)
out-told job records journal it closed owed spare slot v d k sees out =
    subst (λ e. InState e (IsOut v)) sees
    (in-state (seen_of job records journal it) k.machine (IsOut v) k.led (record { slot = slot; out = out }))

-- a claim that goes: of this event, in this slot

pub gone-owes : (m : Machine) (slot : ℕ) (b : Busy) (number : ℕ) (c : Outstanding) → busy_at m slot ≡ Some b →
    claim_at b number ≡ Some c → owed_by (with_slot m slot (Some (without b number))) + 1 ≡ owed_by m
gone-owes m slot b number c there mine =
    let one = one-gone b number c mine in
    let sums = owed-changed m slot b (Some (without b number)) there in
    omega (arith, one, sums)

pub owed-some : (job : Job) (records : List EventRecord) (journal : List Entry) (it : Slots) (closed : Bool)
    (owed spare slot : ℕ) (b : Busy) (number : ℕ) (c : Outstanding) →
    (k : IsKept job records journal it closed owed spare) → busy_at k.machine slot ≡ Some b →
    claim_at b number ≡ Some c → 1 ≤ owed
owed-some job records journal it closed owed spare slot b number c k there mine =
    let owes = gone-owes k.machine slot b number c there mine in
    omega (arith, owes, k.owes)

pub spare-some : (job : Job) (records : List EventRecord) (journal : List Entry) (it : Slots) (closed : Bool)
    (owed spare slot : ℕ) (b : Busy) (number : ℕ) (c : Outstanding) →
    (k : IsKept job records journal it closed owed spare) → busy_at k.machine slot ≡ Some b →
    claim_at b number ≡ Some c → 0 < spare
spare-some job records journal it closed owed spare slot b number c k there mine =
    let owes = gone-owes k.machine slot b number c there mine in
    omega (arith, owes, k.owes, k.room)

pub can-return : (job seen : Job) (m : Machine) (slot : ℕ) (b : Busy) (number : ℕ) (c : Outstanding)
    (a : Algorithm) (lent : Lent) → seen ≡ job → busy_at m slot ≡ Some b → claim_at b number ≡ Some c →
    lent.algorithm ≡ number → lent.clone ≡ c.clone → slice_get job.algorithms number ≡ Some a →
    IsMadeFor a lent.scratch → CanReturn seen m.slots slot lent
can-return job seen m slot b number c a lent same there mine number_is clone known made =
    subst (λ j. CanReturn j m.slots slot lent) (sym same) (
      given (busy_in m.slots slot) (λ x. IsSomeAnd (claim_at x lent.algorithm) (λ y. y.clone ≡ lent.clone)) b
          (busy-spelled m slot ∙ there)
          (given (claim_at b lent.algorithm) (λ y. y.clone ≡ lent.clone) c (ap (claim_at b) number_is ∙ mine)
          (sym clone)),
      given (slice_get job.algorithms lent.algorithm) (λ x. IsMadeFor x lent.scratch) a
          (ap (slice_get job.algorithms) number_is ∙ known) made,
    )

-- its entry is found by its ticket
pub out-found : (job : Job) (slots : ℕ) (records : List EventRecord) (journal : List Entry) (m : Machine)
    (slot : ℕ) (b : Busy) (number : ℕ) (c : Outstanding) → replay job slots records journal ≡ Some m →
    busy_at m slot ≡ Some b → claim_at b number ≡ Some c →
    found journal m c.ticket ≡ Some (record { slot = slot; busy = b; number = number; claim = c })
out-found job slots records journal m slot b number c led there mine =
    let entry = own-entries job slots records journal m led slot b number c there mine in
    finds journal m c.ticket slot number c.clone entry.worker b c entry.there there mine refl

pub slots-back : (job seen : Job) (m : Machine) (slot : ℕ) (b : Busy) (number : ℕ) (c : Outstanding) (lent : Lent)
    (old new : Slots) → seen ≡ job → AreSlotsOf job m.slots old → busy_at m slot ≡ Some b →
    claim_at b number ≡ Some c → lent.algorithm ≡ number → lent.clone ≡ c.clone → Returns seen slot lent old new →
    AreSlotsOf job (set m.slots slot (Some (without b number))) new
slots-back job seen m slot b number c lent old new same slots there mine number_is clone returns =
    let here : Returns job slot lent old new = subst (λ j. Returns j slot lent old new) same returns in
    subst (λ n. AreSlotsOf job (set m.slots slot (Some (without b n))) new) number_is
    (here m.slots b c slots (busy-spelled m slot ∙ there) (ap (claim_at b) number_is ∙ mine) (sym clone))

pub back-kept : (job seen : Job) (records : List EventRecord) (journal longer : List Entry) (old new : Slots)
    (closed : Bool) (owed spare room ticket slot : ℕ) (b : Busy) (number : ℕ) (c : Outstanding) (lent : Lent) →
    (k : IsKept job records journal old closed owed spare) → seen ≡ job → busy_at k.machine slot ≡ Some b →
    claim_at b number ≡ Some c → lent.algorithm ≡ number → lent.clone ≡ c.clone → Returns seen slot lent old new →
    ticket ≡ c.ticket → longer ≡ journal ++ Back ticket ∷ [] → room + 1 ≡ spare →
    IsKept job records longer new closed (owed - 1) room
back-kept job seen records journal longer old new closed owed spare room ticket slot b number c lent k same there mine
    number_is clone returns is grown less =
    let m = k.machine in
    let next = with_slot m slot (Some (without b number)) in
    let slots = slots-back job seen m slot b number c lent old new same k.slots there mine number_is clone returns in
    let owes = gone-owes m slot b number c there mine in
    kept-on job (length old.seats) records journal longer (Back c.ticket) m next new closed (owed - 1) room k.valid
    k.some k.fitting k.led
    (backs job records journal m c.ticket _ (out-found job (length old.seats) records journal m slot b number c k.led
    there mine))
    (grown ∙ ap (λ t. journal ++ Back t ∷ []) is)
    (as-many job m.slots next.slots old new k.slots slots (length-set m.slots slot (Some (without b number))))
    k.all k.last slots (omega (arith, owes, k.owes)) (omega (arith, owes, k.owes, k.room, less))

pub back-entered : (job seen : Job) (records : List EventRecord) (journal longer : List Entry) (old new : Slots)
    (closed : Bool) (owed spare ticket own slot : ℕ) (b : Busy) (number : ℕ) (c : Outstanding) (lent : Lent)
    (d : DeskState) →
    (k : IsKept job records journal old closed owed spare) → seen ≡ job → seen_of job records journal old ≡ d →
    busy_at k.machine slot ≡ Some b → claim_at b number ≡ Some c → lent.algorithm ≡ number → lent.clone ≡ c.clone →
    Returns seen slot lent old new → ticket ≡ own → longer ≡ journal ++ Back ticket ∷ [] →
    seen_of job records longer new ≡ with_entry d (Back own)
back-entered job seen records journal longer old new closed owed spare ticket own slot b number c lent d k same sees
    there mine number_is clone returns is grown =
    let m = k.machine in
    let slots = slots-back job seen m slot b number c lent old new same k.slots there mine number_is clone returns in
    let seats = as-many job m.slots (set m.slots slot (Some (without b number))) old new k.slots slots
    (length-set m.slots slot (Some (without b number))) in
    entered job records journal longer (Back own) old new seats (grown ∙ ap (λ t. journal ++ Back t ∷ []) is)
    ∙ ap (λ e. with_entry e (Back own)) sees
