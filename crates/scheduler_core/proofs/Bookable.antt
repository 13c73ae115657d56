-- What an execution left can be booked: the algorithm hasn't run in its event, and the places of its outputs are empty.
use Rattle.std.proofs.Common.{◌≡◌, ℕ, zero, suc, ◌+◌, ◌-◌, ◌<◌, ◌≤◌, Bool, true, List, [], ◌∷◌, ◌++◌, length, map, set, slice_get, Option, Some, None, refl, ap, sym, ◌∙◌, subst, arith}
use Rattle.std.proofs.lemmas.List.{length-append, length-map, length-set}
use Rattle.std.proofs.lemmas.Option.{none-some, same_Some}
use Rattle.std.specs.Arc.{arc_value}
use Rattle.std.specs.List.{flat_map}
use Rattle.std.specs.Prelude.{IsSomeAnd}
use Rattle.std.specs.declared.alloc.Global.{Global}
use Rattle.std.specs.declared.sync.Arc.{Arc}
use Rattle.core_laws.proofs.States.{replay-sound}
use Rattle.core_laws.specs.Sound.{IsSoundFor}
use Rattle.event_laws.proofs.Holding.{unrun-place}
use Rattle.event_laws.proofs.Outputs.{AreLeft, execution-leaves}
use Rattle.event_laws.proofs.Rounds.{can_run-parts}
use Rattle.event_laws.proofs.Same.{outcomes-by_test}
use Rattle.event_laws.proofs.Stores.{length-store}
use Rattle.event_slots.specs.Booking.{CanBook, CanComplete}
use Rattle.event_slots.specs.Slots.{AreSlotsOf, Slots, busy_in}
use Rattle.expr_code.specs.Claim.{left_with}
use Rattle.hive_model.specs.Algorithm.{Algorithm}
use Rattle.hive_model.specs.DataFlow.{AreNumberedFrom}
use Rattle.hive_model.specs.EventRecord.{EventRecord}
use Rattle.hive_model.specs.Execution.{Execution, execution}
use Rattle.hive_model.specs.Handles.{handle_count, output_kinds}
use Rattle.hive_model.specs.History.{DeskState}
use Rattle.hive_model.specs.Job.{Job}
use Rattle.hive_model.specs.Machine.{Busy, Machine, Outstanding, claim_at}
use Rattle.hive_model.specs.Replay.{replay}
use Rattle.hive_model.specs.Results.{kept, kept_by, store}
use Rattle.hive_model.specs.Same.{same_outcome}
use Rattle.hive_model.specs.Step.{busy_at, completed, step, with_slot}
use Rattle.hive_model.specs.Valid.{IsValidJob}
use Rattle.hive_model.specs.declared.algorithm.Output.{Output}
use Rattle.hive_model.specs.declared.algorithm.Raw.{Raw}
use Rattle.hive_model.specs.declared.entry.Entry.{Entry}
use Rattle.hive_model.specs.declared.entry.Entry.TheVariants.{Done}
use Rattle.hive_model.specs.declared.lent.Lent.{Lent}
use Rattle.hive_model.specs.declared.outcome.Outcome.{Outcome}
use Rattle.hive_model.specs.declared.outcome.Outcome.TheVariants.{Accepted, Rejected, Failed}
use Rattle.hive_model.specs.declared.product.Product.{Product}
use Rattle.scheduler_core.proofs.Claims.{given}
use Rattle.scheduler_core.proofs.Entries.{busy-spelled, dones}
use Rattle.scheduler_core.proofs.Keeping.{as-many, entered, kept-on, seen_of}
use Rattle.scheduler_core.proofs.Owing.{flat-empty, one-gone, owed-changed}
use Rattle.scheduler_core.proofs.Returned.{out-found}
use Rattle.scheduler_core.proofs.Undone.{without}
use Rattle.scheduler_core.specs.Says.{with_entry}
use Rattle.scheduler_core.specs.State.{IsKept, owed_by}

-- what is left

kept_by-all : (n : ℕ) (o : Outcome) (outputs : List Product) → AreLeft n o outputs → kept_by o outputs ≡ outputs
kept_by-all n Accepted outputs h = refl
kept_by-all n Rejected outputs h = refl
kept_by-all n (Failed at fault) outputs h = sym h

few-left : (n : ℕ) (o : Outcome) (outputs : List Product) → AreLeft n o outputs → length outputs ≤ n
few-left n Accepted outputs h = omega (arith, h)
few-left n Rejected outputs h = omega (arith, h)
few-left n (Failed at fault) outputs h =
    let none : length outputs ≡ 0 = ap length h in
    omega (arith, none)

-- outputs have their handles below the number of handles

numbered-within : (next : ℕ) (algorithms : List Algorithm) (k : ℕ) (a : Algorithm) (i : ℕ) →
    AreNumberedFrom next algorithms → slice_get algorithms k ≡ Some a → i < length a.outputs →
    a.first_output + i < next + length (flat_map output_kinds algorithms)
numbered-within next [] k a i numbered there within = absurd (none-some a there)
numbered-within next (x ∷ xs) zero a i numbered there within =
    let same : x ≡ a = same_Some x a there in
    let first : a.first_output ≡ next = ap (λ (y : Algorithm). y.first_output) (sym same) ∙ numbered.0 in
    let many : length x.outputs ≡ length a.outputs = ap (λ (y : Algorithm). length y.outputs) same in
    let sum = length-append (output_kinds x) (flat_map output_kinds xs) in
    let own : length (output_kinds x) ≡ length x.outputs = length-map x.outputs (λ (o : Output). o.kind) in
    omega (arith, first, many, sum, own, within)
numbered-within next (x ∷ xs) (suc k) a i numbered there within =
    let rest = numbered-within (next + length x.outputs) xs k a i numbered.1 there within in
    let sum = length-append (output_kinds x) (flat_map output_kinds xs) in
    let own : length (output_kinds x) ≡ length x.outputs = length-map x.outputs (λ (o : Output). o.kind) in
    omega (arith, rest, sum, own)

outputs-within : (job : Job) (k : ℕ) (a : Algorithm) (i : ℕ) → AreNumberedFrom (length job.raws) job.algorithms →
    slice_get job.algorithms k ≡ Some a → i < length a.outputs → a.first_output + i < handle_count job
outputs-within job k a i numbered there within =
    let low = numbered-within (length job.raws) job.algorithms k a i numbered there within in
    let sum = length-append (map (λ (r : Raw). r.kind) job.raws) (flat_map output_kinds job.algorithms) in
    let raws = length-map job.raws (λ (r : Raw). r.kind) in
    omega (arith, low, sum, raws)

-- an execution of an algorithm that is claimed

booked : (job : Job) (event : EventRecord) (b : Busy) (number : ℕ) (a : Algorithm) (c : Outstanding) →
    AreNumberedFrom (length job.raws) job.algorithms → IsSoundFor job event b →
    slice_get job.algorithms number ≡ Some a → claim_at b number ≡ Some c →
    CanBook job b number a (execution a c.inputs)
booked job event b number a c numbered sound known mine =
    let runs = (sound.claims number c mine).runs in
    let unrun = (can_run-parts job event b.ran number runs).unrun in
    let left = execution a c.inputs in
    let leaves = execution-leaves a c.inputs in
    let few = few-left (length a.outputs) left.outcome left.outputs leaves in
    record {
      unrun = unrun;
      kept_whole = kept_by-all (length a.outputs) left.outcome left.outputs leaves;
      few = few;
      free = λ i within.
          let own : i < length a.outputs = omega (arith, within, few) in
          let low = outputs-within job number a i numbered known own in
          let long = length-store job event b.ran in
          ap (λ s. slice_get s (a.first_output + i)) sound.store_is
          ∙ flat-empty (store job event b.ran) (a.first_output + i) (omega (arith, low, long))
          (unrun-place job event b.ran number i (a.first_output + i) numbered
          (record { algorithm = a; there = known; within = own; at = refl }) unrun);
    }

-- as the desk sees it

left-is : (outcome : Outcome) (outputs : List (Arc Product Global)) (left : Execution) → outcome ≡ left.outcome →
    map arc_value outputs ≡ left.outputs → left_with outcome outputs ≡ left
left-is outcome outputs left e f =
    ap (λ o. record { outcome = o; outputs = map arc_value outputs }) e
    ∙ ap (λ l. record { outcome = left.outcome; outputs = l }) f

pub can-complete : (job seen : Job) (records : List EventRecord) (journal : List Entry) (it : Slots) (closed : Bool)
    (owed spare slot : ℕ) (b : Busy) (number : ℕ) (c : Outstanding) (a : Algorithm) (lent : Lent)
    (outcome : Outcome) (outputs : List (Arc Product Global)) (left : Execution) →
    (k : IsKept job records journal it closed owed spare) → seen ≡ job → busy_at k.machine slot ≡ Some b →
    claim_at b number ≡ Some c → lent.algorithm ≡ number → slice_get job.algorithms number ≡ Some a →
    outcome ≡ left.outcome → map arc_value outputs ≡ left.outputs → left ≡ execution a c.inputs →
    CanComplete seen k.machine.slots slot lent.algorithm (left_with outcome outputs)
can-complete job seen records journal it closed owed spare slot b number c a lent outcome outputs left k same there mine
    number_is known e f executed =
    let m = k.machine in
    let sound = replay-sound job (length it.seats) records journal m k.valid.numbered k.led in
    let busy = sound.busy slot b there in
    let can = booked job busy.event b number a c k.valid.numbered busy.sound known mine in
    let is = left-is outcome outputs left e f ∙ executed in
    subst (λ j. CanComplete j m.slots slot lent.algorithm (left_with outcome outputs)) (sym same)
    (given (busy_in m.slots slot)
    (λ x. IsSomeAnd (slice_get job.algorithms lent.algorithm)
    (λ y. CanBook job x lent.algorithm y (left_with outcome outputs)))
    b (busy-spelled m slot ∙ there)
    (given (slice_get job.algorithms lent.algorithm)
    (λ y. CanBook job b lent.algorithm y (left_with outcome outputs))
    a (ap (slice_get job.algorithms) number_is ∙ known)
    (subst (λ n. CanBook job b n a (left_with outcome outputs)) (sym number_is)
    (subst (λ x. CanBook job b number a x) (sym is) can))))

-- what the slots promise
abbrev pub Completes : Job → ℕ → Lent → Execution → Slots → Slots → Type 0
Completes job slot lent it old new =
    (slots : List (Option Busy)) (b : Busy) (a : Algorithm) (c : Outstanding) → AreSlotsOf job slots old →
    busy_in slots slot ≡ Some b → claim_at b lent.algorithm ≡ Some c → c.clone ≡ lent.clone →
    slice_get job.algorithms lent.algorithm ≡ Some a →
    AreSlotsOf job (set slots slot (Some (completed b lent.algorithm a it))) new

slots-done : (job seen : Job) (m : Machine) (slot : ℕ) (b : Busy) (number : ℕ) (c : Outstanding) (a : Algorithm)
    (lent : Lent) (outcome : Outcome) (outputs : List (Arc Product Global)) (left : Execution) (old new : Slots) →
    seen ≡ job → AreSlotsOf job m.slots old → busy_at m slot ≡ Some b → claim_at b number ≡ Some c →
    lent.algorithm ≡ number → lent.clone ≡ c.clone → slice_get job.algorithms number ≡ Some a →
    outcome ≡ left.outcome → map arc_value outputs ≡ left.outputs → left ≡ execution a c.inputs →
    Completes seen slot lent (left_with outcome outputs) old new →
    AreSlotsOf job (set m.slots slot (Some (completed b number a (execution a c.inputs)))) new
slots-done job seen m slot b number c a lent outcome outputs left old new same slots there mine number_is clone known e
    f executed completes =
    let is = left-is outcome outputs left e f ∙ executed in
    let here : Completes job slot lent (left_with outcome outputs) old new =
    subst (λ j. Completes j slot lent (left_with outcome outputs) old new) same completes in
    subst (λ x. AreSlotsOf job (set m.slots slot (Some (completed b number a x))) new) is
    (subst (λ n. AreSlotsOf job (set m.slots slot (Some (completed b n a (left_with outcome outputs)))) new) number_is
    (here m.slots b a c slots (busy-spelled m slot ∙ there) (ap (claim_at b) number_is ∙ mine) (sym clone)
    (ap (slice_get job.algorithms) number_is ∙ known)))

done-owes : (m : Machine) (slot : ℕ) (b : Busy) (number : ℕ) (c : Outstanding) (a : Algorithm) (it : Execution) →
    busy_at m slot ≡ Some b → claim_at b number ≡ Some c →
    owed_by (with_slot m slot (Some (completed b number a it))) + 1 ≡ owed_by m
unfolding completed
done-owes m slot b number c a it there mine =
    let one = one-gone b number c mine in
    let sums = owed-changed m slot b (Some (completed b number a it)) there in
    omega (arith, one, sums)

done-steps : (job : Job) (slots : ℕ) (records : List EventRecord) (journal : List Entry) (m : Machine) (slot : ℕ)
    (b : Busy) (number : ℕ) (c : Outstanding) (a : Algorithm) (outcome : Outcome) (left : Execution) →
    replay job slots records journal ≡ Some m → busy_at m slot ≡ Some b → claim_at b number ≡ Some c →
    slice_get job.algorithms number ≡ Some a → outcome ≡ left.outcome → left ≡ execution a c.inputs →
    step job records journal m (Done c.ticket outcome)
    ≡ Some (with_slot m slot (Some (completed b number a (execution a c.inputs))))
done-steps job slots records journal m slot b number c a outcome left led there mine known e executed =
    dones job records journal m c.ticket outcome _ a
    (out-found job slots records journal m slot b number c led there mine) known
    ((outcomes-by_test outcome (execution a c.inputs).outcome).1 (e ∙ ap (λ (x : Execution). x.outcome) executed))

pub done-kept : (job seen : Job) (records : List EventRecord) (journal longer : List Entry) (old new : Slots)
    (closed : Bool) (owed spare room ticket slot : ℕ) (b : Busy) (number : ℕ) (c : Outstanding) (a : Algorithm)
    (lent : Lent) (outcome : Outcome) (outputs : List (Arc Product Global)) (left : Execution) →
    (k : IsKept job records journal old closed owed spare) → seen ≡ job → busy_at k.machine slot ≡ Some b →
    claim_at b number ≡ Some c → lent.algorithm ≡ number → lent.clone ≡ c.clone →
    slice_get job.algorithms number ≡ Some a →
    outcome ≡ left.outcome → map arc_value outputs ≡ left.outputs → left ≡ execution a c.inputs →
    Completes seen slot lent (left_with outcome outputs) old new →
    ticket ≡ c.ticket → longer ≡ journal ++ Done ticket outcome ∷ [] → room + 1 ≡ spare →
    IsKept job records longer new closed (owed - 1) room
done-kept job seen records journal longer old new closed owed spare room ticket slot b number c a lent outcome outputs
    left k same there mine number_is clone known e f executed completes is grown less =
    let m = k.machine in
    let it = execution a c.inputs in
    let next = with_slot m slot (Some (completed b number a it)) in
    let slots = slots-done job seen m slot b number c a lent outcome outputs left old new same k.slots there mine
    number_is clone known e f executed completes in
    let owes = done-owes m slot b number c a it there mine in
    kept-on job (length old.seats) records journal longer (Done c.ticket outcome) m next new closed (owed - 1) room
    k.valid k.some k.fitting k.led
    (done-steps job (length old.seats) records journal m slot b number c a outcome left k.led there mine known e
    executed)
    (grown ∙ ap (λ t. journal ++ Done t outcome ∷ []) is)
    (as-many job m.slots next.slots old new k.slots slots
    (length-set m.slots slot (Some (completed b number a it))))
    k.all k.last slots (omega (arith, owes, k.owes)) (omega (arith, owes, k.owes, k.room, less))

pub done-entered : (job seen : Job) (records : List EventRecord) (journal longer : List Entry) (old new : Slots)
    (closed : Bool) (owed spare ticket own slot : ℕ) (b : Busy) (number : ℕ) (c : Outstanding) (a : Algorithm)
    (lent : Lent) (outcome : Outcome) (outputs : List (Arc Product Global)) (left : Execution) (d : DeskState) →
    (k : IsKept job records journal old closed owed spare) → seen ≡ job → seen_of job records journal old ≡ d →
    busy_at k.machine slot ≡ Some b →
    claim_at b number ≡ Some c → lent.algorithm ≡ number → lent.clone ≡ c.clone →
    slice_get job.algorithms number ≡ Some a →
    outcome ≡ left.outcome → map arc_value outputs ≡ left.outputs → left ≡ execution a c.inputs →
    Completes seen slot lent (left_with outcome outputs) old new →
    ticket ≡ own → longer ≡ journal ++ Done ticket outcome ∷ [] →
    seen_of job records longer new ≡ with_entry d (Done own left.outcome)
done-entered job seen records journal longer old new closed owed spare ticket own slot b number c a lent outcome outputs
    left d k same sees there mine number_is clone known e f executed completes is grown =
    let m = k.machine in
    let it = execution a c.inputs in
    let slots = slots-done job seen m slot b number c a lent outcome outputs left old new same k.slots there mine
    number_is clone known e f executed completes in
    let seats = as-many job m.slots (set m.slots slot (Some (completed b number a it))) old new k.slots slots
    (length-set m.slots slot (Some (completed b number a it))) in
    entered job records journal longer (Done own left.outcome) old new seats
    (grown ∙ (ap (λ t. journal ++ Done t outcome ∷ []) is ∙ ap (λ o. journal ++ Done own o ∷ []) e))
    ∙ ap (λ x. with_entry x (Done own left.outcome)) sees
