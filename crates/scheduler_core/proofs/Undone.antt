-- A claim that is given back at once: all is as before.
use Rattle.std.proofs.Common.{◌≡◌, ℕ, zero, suc, ◌+◌, ◌<◌, ◌≤◌, Bool, true, List, [], ◌∷◌, length, set, slice_get, Option, Some, None, refl, ap, sym, ◌∙◌, subst, arith}
use Rattle.std.specs.Option.{option_flatten}
use Rattle.std.specs.Prelude.{IsSomeAnd}
use Rattle.core_laws.proofs.Places.{flat-set_same, get-set_same}
use Rattle.core_laws.proofs.Steps.{busy-within}
use Rattle.event_slots.specs.Booking.{CanReturn}
use Rattle.event_slots.specs.Claiming.{OneMayBeClaimed}
use Rattle.event_slots.specs.Slots.{AreSlotsOf, Slots, busy_in}
use Rattle.expr_code.specs.Claim.{Claim as Work}
use Rattle.hive_model.specs.Algorithm.{Algorithm}
use Rattle.hive_model.specs.Enabled.{inputs_in}
use Rattle.hive_model.specs.EventRecord.{EventRecord}
use Rattle.hive_model.specs.History.{DeskState}
use Rattle.hive_model.specs.Job.{Job}
use Rattle.hive_model.specs.Machine.{Busy, Machine, Outstanding, claim_at}
use Rattle.hive_model.specs.Replay.{replay}
use Rattle.hive_model.specs.Scratch.{IsMadeFor}
use Rattle.hive_model.specs.Step.{busy_at, claimed}
use Rattle.hive_model.specs.Valid.{IsValidJob}
use Rattle.hive_model.specs.declared.entry.Entry.{Entry}
use Rattle.hive_model.specs.declared.lent.Lent.{Lent}
use Rattle.scheduler_core.proofs.Claims.{given}
use Rattle.scheduler_core.proofs.Entries.{busy-spelled}
use Rattle.scheduler_core.proofs.Handed.{Gives, Hands, gives-of, has-place, was-free}
use Rattle.scheduler_core.proofs.Keeping.{of-job}
use Rattle.scheduler_core.specs.State.{IsKept}

set-set : {X : Type 0} (xs : List X) (i : ℕ) (x y : X) → set (set xs i x) i y ≡ set xs i y
set-set [] i x y = refl
set-set (z ∷ zs) zero x y = refl
set-set (z ∷ zs) (suc i) x y = ap (λ l. z ∷ l) (set-set zs i x y)

flat-nothing : {X : Type 0} (xs : List (Option X)) (i : ℕ) →
    ◌≡◌ {A = Option X} (option_flatten (slice_get xs i)) None → set xs i None ≡ xs
flat-nothing [] i h = refl
flat-nothing (None ∷ xs) zero h = refl
flat-nothing (Some x ∷ xs) zero h = absurd (cc)
flat-nothing (x ∷ xs) (suc i) h = ap (λ l. x ∷ l) (flat-nothing xs i h)

flat-same : {X : Type 0} (xs : List (Option X)) (i : ℕ) (x : X) → option_flatten (slice_get xs i) ≡ Some x →
    set xs i (Some x) ≡ xs
flat-same [] i x h = refl
flat-same (None ∷ xs) zero x h = absurd (cc)
flat-same (Some y ∷ xs) zero x h = ap (λ o. o ∷ xs) (sym h)
flat-same (y ∷ xs) (suc i) x h = ap (λ l. y ∷ l) (flat-same xs i x h)

-- the slots with the claim

abbrev pub claimed_slots : Machine → ℕ → ℕ → Busy → ℕ → Algorithm → Option ℕ → List (Option Busy)
claimed_slots m ticket slot b number a clone = set m.slots slot (Some (claimed b number a ticket clone))

-- an event without the claim
abbrev pub without : Busy → ℕ → Busy
without b number = record b { claims = set b.claims number None }

event-undone : (b : Busy) (ticket number : ℕ) (a : Algorithm) (clone : Option ℕ) → claim_at b number ≡ None →
    without (claimed b number a ticket clone) number ≡ b
unfolding claimed
event-undone b ticket number a clone none =
    ap (λ l. record b { claims = l }) (set-set b.claims number _ None ∙ flat-nothing b.claims number none)

slots-undone : (m : Machine) (ticket slot : ℕ) (b : Busy) (number : ℕ) (a : Algorithm) (clone : Option ℕ) →
    busy_in m.slots slot ≡ Some b → claim_at b number ≡ None →
    set (claimed_slots m ticket slot b number a clone) slot (Some (without (claimed b number a ticket clone) number))
    ≡ m.slots
slots-undone m ticket slot b number a clone there none =
    set-set m.slots slot _ _
    ∙ (ap (λ e. set m.slots slot (Some e)) (event-undone b ticket number a clone none)
    ∙ flat-same m.slots slot b there)

claimed-there : (b : Busy) (ticket number : ℕ) (a : Algorithm) (clone : Option ℕ) → number < length b.claims →
    claim_at (claimed b number a ticket clone) number
    ≡ Some (record { ticket = ticket; clone = clone; inputs = inputs_in b.store a.inputs })
unfolding claimed
claimed-there b ticket number a clone within =
    flat-set_same b.claims number
    (Some (record { ticket = ticket; clone = clone; inputs = inputs_in b.store a.inputs })) within

-- what is asked of the way back

pub goes-back : (job : Job) (slots : ℕ) (records : List EventRecord) (journal : List Entry) (m : Machine)
    (ticket slot : ℕ) (v : Work) (new : Slots) (lent : Lent) →
    IsValidJob job → replay job slots records journal ≡ Some m →
    (it : Gives job m ticket slot v new) → lent.algorithm ≡ v.algorithm → lent.clone ≡ v.clone →
    IsMadeFor v.body lent.scratch →
    CanReturn job (claimed_slots m ticket slot it.busy v.algorithm it.algorithm v.clone) slot lent
goes-back job slots records journal m ticket slot v new lent valid led it number clone made =
    let b = claimed it.busy v.algorithm it.algorithm ticket v.clone in
    let within = has-place job slots records journal m slot it.busy v.algorithm it.algorithm valid led it.there
    it.of_job in (
      given (busy_in (claimed_slots m ticket slot it.busy v.algorithm it.algorithm v.clone) slot)
          (λ x. IsSomeAnd (claim_at x lent.algorithm) (λ c. c.clone ≡ lent.clone)) b
          (flat-set_same m.slots slot (Some b) (busy-within m slot it.busy it.there))
          (given (claim_at b lent.algorithm) (λ c. c.clone ≡ lent.clone) _
          (ap (claim_at b) number ∙ claimed-there it.busy ticket v.algorithm it.algorithm v.clone within)
          (sym clone)),
      given (slice_get job.algorithms lent.algorithm) (λ a. IsMadeFor a lent.scratch) it.algorithm
          (ap (slice_get job.algorithms) number ∙ it.of_job)
          (subst (λ a. IsMadeFor a lent.scratch) (ap (λ (w : Work). w.body) it.is) made),
    )

-- what the slots promise for it
abbrev pub Returns : Job → ℕ → Lent → Slots → Slots → Type 0
Returns job slot lent old new =
    (slots : List (Option Busy)) (b : Busy) (c : Outstanding) → AreSlotsOf job slots old →
    busy_in slots slot ≡ Some b → claim_at b lent.algorithm ≡ Some c → c.clone ≡ lent.clone →
    AreSlotsOf job (set slots slot (Some (record b { claims = set b.claims lent.algorithm None }))) new

pub undone : (job : Job) (slots : ℕ) (records : List EventRecord) (journal : List Entry) (m : Machine)
    (ticket slot : ℕ) (v : Work) (new last : Slots) (lent : Lent) →
    IsValidJob job → replay job slots records journal ≡ Some m →
    (it : Gives job m ticket slot v new) → lent.algorithm ≡ v.algorithm → lent.clone ≡ v.clone →
    Returns job slot lent new last → AreSlotsOf job m.slots last
undone job slots records journal m ticket slot v new last lent valid led it number clone returns =
    let b = claimed it.busy v.algorithm it.algorithm ticket v.clone in
    let within = has-place job slots records journal m slot it.busy v.algorithm it.algorithm valid led it.there
    it.of_job in
    let none = was-free job m.slots it.busy v.algorithm it.algorithm v.clone it.may in
    let there : busy_in m.slots slot ≡ Some it.busy = busy-spelled m slot ∙ it.there in
    let back : AreSlotsOf job (set (claimed_slots m ticket slot it.busy v.algorithm it.algorithm v.clone) slot
    (Some (without b lent.algorithm))) last =
    returns (claimed_slots m ticket slot it.busy v.algorithm it.algorithm v.clone) b _ it.slots
    (flat-set_same m.slots slot (Some b) (busy-within m slot it.busy it.there))
    (ap (claim_at b) number ∙ claimed-there it.busy ticket v.algorithm it.algorithm v.clone within)
    (sym clone) in
    subst (λ l. AreSlotsOf job l last)
    (ap (λ n. set (claimed_slots m ticket slot it.busy v.algorithm it.algorithm v.clone) slot
    (Some (without b n))) number
    ∙ slots-undone m ticket slot it.busy v.algorithm it.algorithm v.clone there none)
    back

-- as the desk sees it

pub may-return : (job seen other : Job) (records : List EventRecord) (journal : List Entry) (old new : Slots)
    (closed : Bool) (owed spare ticket slot : ℕ) (v : Work) (lent : Lent) →
    IsKept job records journal old closed owed spare → seen ≡ job → other ≡ job → Hands seen ticket slot v old new →
    ticket ≡ length journal → lent.algorithm ≡ v.algorithm → lent.clone ≡ v.clone → IsMadeFor v.body lent.scratch →
    (x : List (Option Busy)) × AreSlotsOf other x new × CanReturn other x slot lent
may-return job seen other records journal old new closed owed spare ticket slot v lent k same again hands is number
    clone made =
    let m = k.machine in
    let it = gives-of job seen m ticket (length journal) slot v old new same k.slots hands is in
    let x = claimed_slots m (length journal) slot it.busy v.algorithm it.algorithm v.clone in (
      x,
      of-job other job x new again it.slots,
      subst (λ j. CanReturn j x slot lent) (sym again)
          (goes-back job (length old.seats) records journal m (length journal) slot v new lent k.valid k.led it number
          clone made),
    )

undone-slots : (job seen other : Job) (records : List EventRecord) (journal : List Entry) (old new last : Slots)
    (closed : Bool) (owed spare ticket slot : ℕ) (v : Work) (lent : Lent) →
    (k : IsKept job records journal old closed owed spare) → seen ≡ job → other ≡ job →
    Hands seen ticket slot v old new → ticket ≡ length journal → lent.algorithm ≡ v.algorithm →
    lent.clone ≡ v.clone → Returns other slot lent new last → AreSlotsOf job k.machine.slots last
undone-slots job seen other records journal old new last closed owed spare ticket slot v lent k same again hands is
    number clone returns =
    let m = k.machine in
    let it = gives-of job seen m ticket (length journal) slot v old new same k.slots hands is in
    undone job (length old.seats) records journal m (length journal) slot v new last lent k.valid k.led it number clone
    (subst (λ j. Returns j slot lent new last) again returns)

pub undone-seats : (job seen other : Job) (records : List EventRecord) (journal : List Entry) (old new last : Slots)
    (closed : Bool) (owed spare ticket slot : ℕ) (v : Work) (lent : Lent) →
    IsKept job records journal old closed owed spare → seen ≡ job → other ≡ job →
    Hands seen ticket slot v old new → ticket ≡ length journal → lent.algorithm ≡ v.algorithm →
    lent.clone ≡ v.clone → Returns other slot lent new last → length last.seats ≡ length old.seats
undone-seats job seen other records journal old new last closed owed spare ticket slot v lent k same again hands is
    number clone returns =
    let there = undone-slots job seen other records journal old new last closed owed spare ticket slot v lent k same
    again hands is number clone returns in
    there.as_many ∙ sym k.slots.as_many

pub undone-kept : (job seen other : Job) (records : List EventRecord) (journal later : List Entry)
    (old new last : Slots) (closed : Bool) (owed spare room ticket slot : ℕ) (v : Work) (lent : Lent) →
    IsKept job records journal old closed owed spare → seen ≡ job → other ≡ job →
    Hands seen ticket slot v old new → ticket ≡ length journal → lent.algorithm ≡ v.algorithm →
    lent.clone ≡ v.clone → Returns other slot lent new last → later ≡ journal → owed ≤ room →
    IsKept job records later last closed owed room
undone-kept job seen other records journal later old new last closed owed spare room ticket slot v lent k same again
    hands is number clone returns unchanged enough =
    let there = undone-slots job seen other records journal old new last closed owed spare ticket slot v lent k same
    again hands is number clone returns in
    let seats : length last.seats ≡ length old.seats = there.as_many ∙ sym k.slots.as_many in
    record {
      valid = k.valid;
      some = omega (arith, k.some, seats);
      fitting = k.fitting;
      machine = k.machine;
      led = ap (λ n. replay job n records later) seats
          ∙ (ap (replay job (length old.seats) records) unchanged ∙ k.led);
      all = k.all;
      last = k.last;
      slots = there;
      owes = k.owes;
      room = enough;
    }

-- it shows that there was a claim to be had
pub given-may : (job seen : Job) (records : List EventRecord) (journal : List Entry) (old new : Slots)
    (closed : Bool) (owed spare ticket slot : ℕ) (v : Work) →
    (k : IsKept job records journal old closed owed spare) → seen ≡ job → Hands seen ticket slot v old new →
    ticket ≡ length journal → OneMayBeClaimed job k.machine.slots
given-may job seen records journal old new closed owed spare ticket slot v k same hands is =
    let it = gives-of job seen k.machine ticket (length journal) slot v old new same k.slots hands is in
    record {
      slot = slot;
      busy = it.busy;
      there = busy-spelled k.machine slot ∙ it.there;
      number = v.algorithm;
      algorithm = it.algorithm;
      of_job = it.of_job;
      clone = v.clone;
      may = it.may;
    }
