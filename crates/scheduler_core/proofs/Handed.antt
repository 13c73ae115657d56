-- A claim that is handed out.
use Rattle.std.proofs.Common.{◌≡◌, ℕ, ◌+◌, ◌<◌, ◌≤◌, Bool, true, false, not, is_some, List, [], ◌∷◌, ◌++◌, count_by, length, set, slice_get, Option, Some, None, refl, ap, sym, ◌∙◌, subst, arith}
use Rattle.std.proofs.lemmas.Bool.{and_parts}
use Rattle.std.proofs.lemmas.List.{length-set}
use Rattle.std.proofs.lemmas.Option.{slice_get_within}
use Rattle.core_laws.proofs.Places.{flat-set_same}
use Rattle.core_laws.proofs.States.{replay-sound}
use Rattle.core_laws.proofs.Steps.{busy-same, busy-within}
use Rattle.event_slots.specs.Claiming.{IsTaken, claim_with, may_claim}
use Rattle.event_slots.specs.Slots.{AreSlotsOf, Slots, busy_in}
use Rattle.expr_code.specs.Claim.{Claim as Work}
use Rattle.hive_model.specs.Algorithm.{Algorithm}
use Rattle.hive_model.specs.Enabled.{inputs_in, is_enabled}
use Rattle.hive_model.specs.EventRecord.{EventRecord}
use Rattle.hive_model.specs.History.{DeskState}
use Rattle.hive_model.specs.Job.{Job}
use Rattle.hive_model.specs.Lending.{has_units, is_free}
use Rattle.hive_model.specs.Machine.{Busy, Machine, Outstanding, claim_at}
use Rattle.hive_model.specs.Replay.{replay}
use Rattle.hive_model.specs.Results.{outcomes}
use Rattle.hive_model.specs.Step.{busy_at, can_claim, claimed, step, with_slot}
use Rattle.hive_model.specs.Valid.{IsValidJob}
use Rattle.hive_model.specs.declared.entry.Entry.{Entry}
use Rattle.hive_model.specs.declared.entry.Entry.TheVariants.{Claim}
use Rattle.scheduler_core.proofs.Claims.{same-claim, taken}
use Rattle.scheduler_core.proofs.Entries.{busy-spelled, claims}
use Rattle.scheduler_core.proofs.Keeping.{as-many, entered, in-state, kept-on, led-seen, of-job, seen_of}
use Rattle.scheduler_core.proofs.Owing.{one-claimed, owed-changed}
use Rattle.scheduler_core.specs.Says.{IsClaimed, IsOutIn, IsWorkOf, with_entry}
use Rattle.scheduler_core.specs.State.{IsKept, owed_by}

-- what the slots hand out, by the state that they stand for
pub record Gives (job : Job) (m : Machine) (ticket slot : ℕ) (v : Work) (new : Slots) : Type 0 where
  pub busy : Busy
  pub there : busy_at m slot ≡ Some busy
  pub algorithm : Algorithm
  pub of_job : slice_get job.algorithms v.algorithm ≡ Some algorithm
  pub may : may_claim job m.slots busy v.algorithm algorithm v.clone ≡ true
  pub is : v ≡ claim_with ticket busy algorithm v.algorithm v.clone
  pub slots : AreSlotsOf job (set m.slots slot (Some (claimed busy v.algorithm algorithm ticket v.clone))) new

gives : (job : Job) (m : Machine) (ticket slot : ℕ) (v : Work) (new : Slots) →
    IsTaken job m.slots ticket slot v new → Gives job m ticket slot v new
gives job m ticket slot v new h =
    let b = taken (busy_in m.slots slot) _ h in
    let a = taken (slice_get job.algorithms v.algorithm) _ b.holds in
    record {
      busy = b.value;
      there = sym (busy-spelled m slot) ∙ b.was;
      algorithm = a.value;
      of_job = a.was;
      may = a.holds.0;
      is = a.holds.1;
      slots = a.holds.2;
    }

abbrev pub Hands : Job → ℕ → ℕ → Work → Slots → Slots → Type 0
Hands job ticket slot v old new =
    (slots : List (Option Busy)) → AreSlotsOf job slots old → IsTaken job slots ticket slot v new

pub gives-of : (job seen : Job) (m : Machine) (ticket count slot : ℕ) (v : Work) (old new : Slots) → seen ≡ job →
    AreSlotsOf job m.slots old → Hands seen ticket slot v old new → ticket ≡ count → Gives job m count slot v new
gives-of job seen m ticket count slot v old new same slots hands is =
    let here : Hands job ticket slot v old new = subst (λ j. Hands j ticket slot v old new) same hands in
    subst (λ t. Gives job m t slot v new) is (gives job m ticket slot v new (here m.slots slots))

-- the claim wasn't there, and has its place

not-some : {X : Type 0} (o : Option X) → not (is_some o) ≡ true → o ≡ None
not-some None h = refl
not-some (Some x) h = absurd (cc)

pub was-free : (job : Job) (slots : List (Option Busy)) (b : Busy) (number : ℕ) (a : Algorithm) (clone : Option ℕ) →
    may_claim job slots b number a clone ≡ true → claim_at b number ≡ None
unfolding can_claim
was-free job slots b number a clone may =
    let can = (and_parts (can_claim job b number) _ may).0 in
    not-some (claim_at b number) (and_parts (is_enabled job (outcomes b.ran) b.store number) _ can).1

pub has-place : (job : Job) (slots : ℕ) (records : List EventRecord) (journal : List Entry) (m : Machine) (at : ℕ)
    (b : Busy) (number : ℕ) (a : Algorithm) → IsValidJob job → replay job slots records journal ≡ Some m →
    busy_at m at ≡ Some b → slice_get job.algorithms number ≡ Some a → number < length b.claims
has-place job slots records journal m at b number a valid led there known =
    let sound = replay-sound job slots records journal m valid.numbered led in
    let as_long = (sound.busy at b there).sound.as_many in
    let within = slice_get_within job.algorithms number a known in
    omega (arith, as_long, within)

-- the state after the claim

abbrev pub after_claim : Machine → ℕ → ℕ → Busy → ℕ → Algorithm → Option ℕ → Machine
after_claim m ticket slot b number a clone = with_slot m slot (Some (claimed b number a ticket clone))

pub claim-owes : (m : Machine) (ticket slot : ℕ) (b : Busy) (number : ℕ) (a : Algorithm) (clone : Option ℕ) →
    busy_at m slot ≡ Some b → claim_at b number ≡ None → number < length b.claims →
    owed_by (after_claim m ticket slot b number a clone) ≡ owed_by m + 1
unfolding claimed
claim-owes m ticket slot b number a clone there none within =
    let new : Outstanding = record { ticket = ticket; clone = clone; inputs = inputs_in b.store a.inputs } in
    let one = one-claimed b number new within none in
    let sums = owed-changed m slot b (Some (record b { claims = set b.claims number (Some new) })) there in
    omega (arith, one, sums)

pub handed-kept : (job seen : Job) (records : List EventRecord) (journal longer : List Entry) (old new : Slots)
    (closed : Bool) (owed spare room ticket slot worker : ℕ) (v : Work) →
    IsKept job records journal old closed owed spare → seen ≡ job → Hands seen ticket slot v old new →
    ticket ≡ length journal → longer ≡ journal ++ Claim slot v.algorithm v.clone worker ∷ [] → owed + 1 ≤ room →
    IsKept job records longer new closed (owed + 1) room
handed-kept job seen records journal longer old new closed owed spare room ticket slot worker v k same hands is grown
    enough =
    let m = k.machine in
    let it = gives-of job seen m ticket (length journal) slot v old new same k.slots hands is in
    let next = after_claim m (length journal) slot it.busy v.algorithm it.algorithm v.clone in
    let none = was-free job m.slots it.busy v.algorithm it.algorithm v.clone it.may in
    let within = has-place job (length old.seats) records journal m slot it.busy v.algorithm it.algorithm k.valid k.led
    it.there it.of_job in
    let owes = claim-owes m (length journal) slot it.busy v.algorithm it.algorithm v.clone it.there none within in
    kept-on job (length old.seats) records journal longer (Claim slot v.algorithm v.clone worker) m next new closed
    (owed + 1) room k.valid k.some k.fitting k.led
    (claims job records journal m slot v.algorithm v.clone worker it.busy it.algorithm it.there it.of_job it.may)
    grown
    (as-many job m.slots next.slots old new k.slots it.slots (length-set m.slots slot
    (Some (claimed it.busy v.algorithm it.algorithm (length journal) v.clone))))
    k.all k.last it.slots (omega (arith, k.owes, owes)) enough

-- the claim is out as it was handed out
pub is-work : (job : Job) (slots : ℕ) (records : List EventRecord) (journal : List Entry) (m : Machine) (ticket slot : ℕ)
    (v : Work) (new : Slots) → IsValidJob job → replay job slots records journal ≡ Some m →
    (it : Gives job m ticket slot v new) →
    IsWorkOf (after_claim m ticket slot it.busy v.algorithm it.algorithm v.clone) slot v
unfolding claimed
is-work job slots records journal m ticket slot v new valid led it =
    let within = has-place job slots records journal m slot it.busy v.algorithm it.algorithm valid led it.there
    it.of_job in
    let made : Outstanding =
    record { ticket = ticket; clone = v.clone; inputs = inputs_in it.busy.store it.algorithm.inputs } in
    record {
      out = record {
        busy = record it.busy { claims = set it.busy.claims v.algorithm (Some made) };
        there = busy-same m slot _ (busy-within m slot it.busy it.there);
        claim = flat-set_same it.busy.claims v.algorithm (Some made) within
            ∙ ap Some (same-claim made v.ticket v.clone v.inputs (sym (ap (λ (w : Work). w.ticket) it.is)) refl
            (sym (ap (λ (w : Work). w.inputs) it.is)));
      };
      place = ap (λ (w : Work). w.place) it.is;
    }

pub handed-says : (job seen : Job) (records : List EventRecord) (journal longer : List Entry) (old new : Slots)
    (closed : Bool) (owed spare ticket slot worker : ℕ) (v : Work) (d : DeskState) →
    IsKept job records journal old closed owed spare → seen ≡ job → seen_of job records journal old ≡ d →
    Hands seen ticket slot v old new →
    ticket ≡ length journal → longer ≡ journal ++ Claim slot v.algorithm v.clone worker ∷ [] →
    IsClaimed d worker v (seen_of job records longer new)
handed-says job seen records journal longer old new closed owed spare ticket slot worker v d k same sees hands is grown =
    let m = k.machine in
    let it = gives-of job seen m ticket (length journal) slot v old new same k.slots hands is in
    let entry = Claim slot v.algorithm v.clone worker in
    let next = after_claim m (length journal) slot it.busy v.algorithm it.algorithm v.clone in
    let seats = as-many job m.slots next.slots old new k.slots it.slots (length-set m.slots slot
    (Some (claimed it.busy v.algorithm it.algorithm (length journal) v.clone))) in
    let steps =
    claims job records journal m slot v.algorithm v.clone worker it.busy it.algorithm it.there it.of_job it.may in
    subst (λ e. IsClaimed e worker v (seen_of job records longer new)) sees
    (record {
      slot = slot;
      appended = entered job records journal longer entry old new seats grown;
      ticket = ap (λ (w : Work). w.ticket) it.is;
      of_job = it.of_job ∙ ap Some (sym (ap (λ (w : Work). w.body) it.is));
      out = in-state (seen_of job records longer new) next (λ n. IsWorkOf n slot v)
          (led-seen job records journal longer entry m next old new k.led steps grown seats)
          (is-work job (length old.seats) records journal m (length journal) slot v new k.valid k.led it);
    })
