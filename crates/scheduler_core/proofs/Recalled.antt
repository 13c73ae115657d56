-- A claim that is called back: the one with the least ticket, or none is out.
use Rattle.std.proofs.Common.{◌≡◌, ℕ, zero, suc, ◌+◌, ◌<◌, ◌≤◌, Bool, is_some, List, [], ◌∷◌, ◌++◌, count_by, get_or, length, slice_get, Option, Some, None, refl, ap, sym, ◌∙◌, subst, arith}
use Rattle.std.proofs.lemmas.List.Sums.{sum_by-cons}
use Rattle.std.proofs.lemmas.Option.{get_or_from_slice_get, none-some}
use Rattle.std.specs.Option.{option_flatten, option_map_or}
use Rattle.std.specs.Prelude.{IsSomeAnd}
use Rattle.core_laws.proofs.Counting.{count-cons}
use Rattle.event_slots.specs.Slots.{AreSlotsOf, Slots, busy_in, claims_out}
use Rattle.hive_model.specs.Algorithm.{Algorithm}
use Rattle.hive_model.specs.Enabled.{inputs_in}
use Rattle.hive_model.specs.EventRecord.{EventRecord}
use Rattle.hive_model.specs.History.{DeskState}
use Rattle.hive_model.specs.Job.{Job}
use Rattle.hive_model.specs.Machine.{Busy, Machine, Outstanding, claim_at}
use Rattle.hive_model.specs.Scratch.{IsMadeFor}
use Rattle.hive_model.specs.Step.{busy_at}
use Rattle.hive_model.specs.declared.entry.Entry.{Entry}
use Rattle.hive_model.specs.declared.entry.Entry.TheVariants.{Back}
use Rattle.hive_model.specs.declared.scratch.Scratch.{Scratch}
use Rattle.scheduler_core.proofs.Claims.{known-claims, taken}
use Rattle.scheduler_core.proofs.Entries.{busy-spelled}
use Rattle.scheduler_core.proofs.Keeping.{in-state, of-job, seen_of}
use Rattle.scheduler_core.proofs.Owing.{in_slot}
use Rattle.scheduler_core.specs.Says.{IsLeastOut, IsRecalled, with_entry}
use Rattle.scheduler_core.specs.State.{InState, IsKept}

-- counts of none and of one

none-counted : (claims : List (Option Outstanding)) →
    ((i : ℕ) → ◌≡◌ {A = Option Outstanding} (option_flatten (slice_get claims i)) None) →
    count_by (λ (o : Option Outstanding). is_some o) claims ≡ 0
none-counted [] h = refl
none-counted (None ∷ claims) h =
    let step = count-cons (λ (o : Option Outstanding). is_some o) None claims in
    let rest = none-counted claims (λ i. h (suc i)) in
    omega (arith, step, rest)
none-counted (Some c ∷ claims) h = absurd (none-some c (sym (h 0)))

one-counted : (claims : List (Option Outstanding)) (i : ℕ) (c : Outstanding) →
    option_flatten (slice_get claims i) ≡ Some c → 0 < count_by (λ (o : Option Outstanding). is_some o) claims
one-counted [] i c h = absurd (none-some c h)
one-counted (None ∷ claims) zero c h = absurd (none-some c h)
one-counted (Some x ∷ claims) zero c h =
    let step = count-cons (λ (o : Option Outstanding). is_some o) (Some x) claims in
    omega (arith, step)
one-counted (o ∷ claims) (suc i) c h =
    let step = count-cons (λ (o : Option Outstanding). is_some o) o claims in
    let rest = one-counted claims i c h in
    omega (arith, step, rest)

abbrev NoneStands : List (Option Busy) → Type 0
NoneStands slots = (slot number : ℕ) (b : Busy) → busy_in slots slot ≡ Some b → claim_at b number ≡ None

none-out : (slots : List (Option Busy)) → NoneStands slots → claims_out slots ≡ 0
none-out [] h = refl
none-out (None ∷ slots) h =
    let step = sum_by-cons in_slot None slots in
    let rest = none-out slots (λ slot. h (suc slot)) in
    omega (arith, step, rest)
none-out (Some b ∷ slots) h =
    let step = sum_by-cons in_slot (Some b) slots in
    let own = none-counted b.claims (λ i. h 0 i b refl) in
    let rest = none-out slots (λ slot. h (suc slot)) in
    omega (arith, step, own, rest)

one-out : (slots : List (Option Busy)) (slot number : ℕ) (b : Busy) (c : Outstanding) → busy_in slots slot ≡ Some b →
    claim_at b number ≡ Some c → 0 < claims_out slots
one-out [] slot number b c there mine = absurd (none-some b there)
one-out (None ∷ slots) zero number b c there mine = absurd (none-some b there)
one-out (Some x ∷ slots) zero number b c there mine =
    let step = sum_by-cons in_slot (Some x) slots in
    let own = one-counted x.claims number c (ap (λ (o : Option Busy). option_flatten (option_map_or (λ (y : Busy).
    slice_get y.claims number) o None)) there ∙ mine) in
    omega (arith, step, own)
one-out (o ∷ slots) (suc slot) number b c there mine =
    let step = sum_by-cons in_slot o slots in
    let rest = one-out slots slot number b c there mine in
    omega (arith, step, rest)

-- what the slots answer

abbrev pub NoneIsOut : Job → Slots → Type 0
NoneIsOut job it = (slots : List (Option Busy)) → AreSlotsOf job slots it → NoneStands slots

abbrev pub StandsFirst : Job → Slots → ℕ → ℕ → ℕ → Option ℕ → Type 0
StandsFirst job it ticket slot number clone = (slots : List (Option Busy)) → AreSlotsOf job slots it →
    IsSomeAnd (busy_in slots slot) (λ b. IsSomeAnd (claim_at b number)
    (λ c. (c.ticket ≡ ticket) × (c.clone ≡ clone)))
    × ((other n : ℕ) (b : Busy) (c : Outstanding) → busy_in slots other ≡ Some b → claim_at b n ≡ Some c →
    ticket ≤ c.ticket)

pub record Stands (job : Job) (m : Machine) (ticket slot number : ℕ) (clone : Option ℕ) : Type 0 where
  pub busy : Busy
  pub there : busy_at m slot ≡ Some busy
  pub claim : Outstanding
  pub mine : claim_at busy number ≡ Some claim
  pub ticket_is : claim.ticket ≡ ticket
  pub clone_is : claim.clone ≡ clone
  pub algorithm : Algorithm
  pub known : slice_get job.algorithms number ≡ Some algorithm
  pub least : (other n : ℕ) (b : Busy) (c : Outstanding) → busy_at m other ≡ Some b → claim_at b n ≡ Some c →
      ticket ≤ c.ticket

pub stands-of : (job seen : Job) (records : List EventRecord) (journal : List Entry) (it : Slots) (closed : Bool)
    (owed spare ticket slot number : ℕ) (clone : Option ℕ) →
    (k : IsKept job records journal it closed owed spare) → seen ≡ job →
    StandsFirst seen it ticket slot number clone → Stands job k.machine ticket slot number clone
stands-of job seen records journal it closed owed spare ticket slot number clone k same first =
    let m = k.machine in
    let here : StandsFirst job it ticket slot number clone =
    subst (λ j. StandsFirst j it ticket slot number clone) same first in
    let both = here m.slots k.slots in
    let b = taken (busy_in m.slots slot) _ both.0 in
    let c = taken (claim_at b.value number) (λ (c : Outstanding). (c.ticket ≡ ticket) × (c.clone ≡ clone)) b.holds in
    let there : busy_at m slot ≡ Some b.value = sym (busy-spelled m slot) ∙ b.was in
    let claims = known-claims job (length it.seats) records journal m k.valid k.led in
    let a = taken (slice_get job.algorithms number)
    (λ (a : Algorithm). c.value.inputs ≡ inputs_in b.value.store a.inputs)
    (claims.inputs slot number b.value c.value there c.was) in
    record {
      busy = b.value;
      there = there;
      claim = c.value;
      mine = c.was;
      ticket_is = c.holds.0;
      clone_is = c.holds.1;
      algorithm = a.value;
      known = a.was;
      least = λ other n x y sits out. both.1 other n x y (busy-spelled m other ∙ sits) out;
    }

pub nothing-out : (job seen : Job) (records : List EventRecord) (journal : List Entry) (it : Slots) (closed : Bool)
    (owed spare : ℕ) (d : DeskState) → IsKept job records journal it closed owed spare → seen ≡ job →
    seen_of job records journal it ≡ d → NoneIsOut seen it → InState d (λ m. claims_out m.slots ≡ 0)
nothing-out job seen records journal it closed owed spare d k same sees none =
    let here : NoneIsOut job it = subst (λ j. NoneIsOut j it) same none in
    subst (λ e. InState e (λ m. claims_out m.slots ≡ 0)) sees
    (in-state (seen_of job records journal it) k.machine (λ m. claims_out m.slots ≡ 0) k.led
    (none-out k.machine.slots (here k.machine.slots k.slots)))

pub something-out : (job : Job) (records : List EventRecord) (journal : List Entry) (it : Slots) (closed : Bool)
    (owed spare ticket slot number : ℕ) (clone : Option ℕ) (d : DeskState) →
    (k : IsKept job records journal it closed owed spare) → seen_of job records journal it ≡ d →
    Stands job k.machine ticket slot number clone → InState d (λ m. 0 < claims_out m.slots)
something-out job records journal it closed owed spare ticket slot number clone d k sees s =
    let m = k.machine in
    subst (λ e. InState e (λ n. 0 < claims_out n.slots)) sees
    (in-state (seen_of job records journal it) m (λ n. 0 < claims_out n.slots) k.led
    (one-out m.slots slot number s.busy s.claim (busy-spelled m slot ∙ s.there) s.mine))

pub recalled-says : (job : Job) (records : List EventRecord) (journal : List Entry) (old : Slots) (closed : Bool)
    (owed spare ticket slot number : ℕ) (clone : Option ℕ) (d after : DeskState) →
    (k : IsKept job records journal old closed owed spare) → seen_of job records journal old ≡ d →
    Stands job k.machine ticket slot number clone → after ≡ with_entry d (Back ticket) →
    IsRecalled d after
recalled-says job records journal old closed owed spare ticket slot number clone d after k sees s appended = record {
  ticket = ticket;
  appended = appended;
  least = subst (λ e. InState e (IsLeastOut ticket)) sees
      (in-state (seen_of job records journal old) k.machine (IsLeastOut ticket) k.led
      (record {
        slot = slot;
        number = number;
        busy = s.busy;
        there = s.there;
        claim = s.claim;
        out = s.mine;
        is = s.ticket_is;
        least = s.least;
      }));
}

-- the new scratch is made for the algorithm of the claim
pub made-for : (job seen : Job) (shown : List Algorithm) (number at : ℕ) (a x : Algorithm) (scratch : Scratch) →
    shown ≡ seen.algorithms → seen ≡ job → at ≡ number → slice_get job.algorithms number ≡ Some a →
    x ≡ get_or shown at x → IsMadeFor x scratch → IsMadeFor a scratch
made-for job seen shown number at a x scratch shows same is known indexed made =
    let both : slice_get shown at ≡ slice_get job.algorithms number =
    ap (λ l. slice_get l at) (shows ∙ ap (λ (j : Job). j.algorithms) same) ∙ ap (slice_get job.algorithms) is in
    subst (λ y. IsMadeFor y scratch) (indexed ∙ get_or_from_slice_get shown at a x (both ∙ known)) made
