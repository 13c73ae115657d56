-- Whether a claim is outstanding in a slot's event.
use Rattle.std.proofs.Common.{◌≡◌, ◌<◌, ◌↔◌, ℕ, Bool, true, is_some, if◌then◌else◌, List, [], length, slice_get, Option, Some, None, IsSome, IsSomeAnd, refl, sym, ap, subst, ◌∙◌, unwrap_or, arith}
use Rattle.std.proofs.lemmas.Option.{same_Some, slice_get_within}
use Rattle.std.specs.Option.{option_and_then, option_map}
use Rattle.event_flow.proofs.Agreeing.{claim-same}
use Rattle.event_flow.specs.Events.{bare}
use Rattle.event_flow.specs.Flow.{claim_in}
use Rattle.event_flow.specs.declared.held.Held.{Held}
use Rattle.hive_model.specs.Algorithm.{Algorithm}
use Rattle.hive_model.specs.Enabled.{inputs_in}
use Rattle.hive_model.specs.Job.{Job}
use Rattle.hive_model.specs.Machine.{Busy, Outstanding, claim_at}
use Rattle.hive_model.specs.declared.product.Product.{Product}
use Rattle.whiteboard.specs.Slots.{IsTaken, products_in}
use Rattle.event_slots.specs.Claiming.{IsHeld}
use Rattle.event_slots.specs.Seats.{seated_claim}
use Rattle.event_slots.specs.Slots.{AreSlotsOf, IsSeatOf, Seat, Slots, busy_in}
use Rattle.event_slots.proofs.Boards.{flat-there}
use Rattle.event_slots.proofs.Found.{event-there, held-by, holds-at, holds-of, value-at}
use Rattle.event_slots.proofs.Readers.{seat-of}

-- the claim of an algorithm in the slot's event
claim-in : (job : Job) (slots : List (Option Busy)) (it : Slots) (slot number : ℕ) →
    AreSlotsOf job slots it →
    option_and_then (seated_claim number) (slice_get it.seats slot)
    ≡ option_map bare (option_and_then (λ (b : Busy). claim_at b number) (busy_in slots slot))
claim-in job slots it slot number are =
    seat-of job slots it slot are (seated_claim number)
    (λ (o : Option Busy). option_map bare (option_and_then (λ (b : Busy). claim_at b number) o)) refl one
  where
    one : (o : Option Busy) (seat : Seat) → IsSeatOf job o seat →
        seated_claim number seat ≡ option_map bare (option_and_then (λ (b : Busy). claim_at b number) o)
    one None seat is = ap (λ (p : Option ℕ). if is_some p then claim_in seat.flow number else None) is.0
    one (Some b) seat is =
        ap (λ (p : Option ℕ). if is_some p then claim_in seat.flow number else None) is.0
        ∙ ap (λ f. claim_in f number) is.1 ∙ claim-same job b number

abbrev HasClaim : Option Busy → ℕ → ℕ → Option ℕ → Type 0
HasClaim o number ticket clone =
    IsSomeAnd o (λ b. IsSomeAnd (claim_at b number) (λ c. (c.ticket ≡ ticket) × (c.clone ≡ clone)))

same-held : (c : Outstanding) (ticket : ℕ) (clone : Option ℕ) →
    bare c ≡ record { ticket = ticket; clone = clone } →
    (c.ticket ≡ ticket) × (c.clone ≡ clone)
same-held c ticket clone e = (ap (λ (h : Held). h.ticket) e, ap (λ (h : Held). h.clone) e)

held-same : (c : Outstanding) (ticket : ℕ) (clone : Option ℕ) → c.ticket ≡ ticket → c.clone ≡ clone →
    ◌≡◌ {A = Held} (bare c) (record { ticket = ticket; clone = clone })
held-same c ticket clone e f = by c.ticket c.clone e f
  where
    by : (t : ℕ) (k : Option ℕ) → t ≡ ticket → k ≡ clone →
        ◌≡◌ {A = Held} (record { ticket = t; clone = k }) (record { ticket = ticket; clone = clone })
    by t k e f = cc

is-claim : (o : Option Outstanding) (ticket : ℕ) (clone : Option ℕ) →
    option_map bare o ≡ Some (record { ticket = ticket; clone = clone }) →
    IsSomeAnd o (λ c. (c.ticket ≡ ticket) × (c.clone ≡ clone))
is-claim None ticket clone e = absurd (cc)
is-claim (Some c) ticket clone e = same-held c ticket clone (same_Some (bare c) _ e)

has-claim : (o : Option Busy) (number ticket : ℕ) (clone : Option ℕ) →
    option_map bare (option_and_then (λ (b : Busy). claim_at b number) o) ≡ Some (record {
      ticket = ticket;
      clone = clone;
    }) →
    HasClaim o number ticket clone
has-claim None number ticket clone e = absurd (cc)
has-claim (Some b) number ticket clone e = is-claim (claim_at b number) ticket clone e

claim-is : (o : Option Busy) (number ticket : ℕ) (clone : Option ℕ) → HasClaim o number ticket clone →
    option_map bare (option_and_then (λ (b : Busy). claim_at b number) o) ≡ Some (record {
      ticket = ticket;
      clone = clone;
    })
claim-is None number ticket clone h = absurd h
claim-is (Some b) number ticket clone h =
    let c = held-by (claim_at b number) _ h in
    ap (option_map bare) c.1 ∙ ap Some (held-same c.0 ticket clone c.2.0 c.2.1)

pub claim-compared : (job : Job) (slots : List (Option Busy)) (it : Slots) (slot number ticket : ℕ)
    (clone : Option ℕ) →
    AreSlotsOf job slots it →
    (option_and_then (seated_claim number) (slice_get it.seats slot) ≡ Some (record {
      ticket = ticket;
      clone
          = clone;
    }))
    ↔ HasClaim (busy_in slots slot) number ticket clone
claim-compared job slots it slot number ticket clone are =
    let is = claim-in job slots it slot number are in (
      λ e. has-claim (busy_in slots slot) number ticket clone (sym is ∙ e),
      λ h. is
          ∙ claim-is (busy_in slots slot) number ticket clone h,
    )

-- where the claim is there

pub record Holding (job : Job) (slots : List (Option Busy)) (it : Slots) (slot number ticket : ℕ) (clone :
    Option ℕ) : Type 0 where
  pub busy : Busy
  pub there : busy_in slots slot ≡ Some busy
  pub taken : IsTaken it.board slot
  pub store : products_in it.board slot ≡ busy.store
  pub claim : Outstanding
  pub claimed : claim_at busy number ≡ Some claim
  pub same : (claim.ticket ≡ ticket) × (claim.clone ≡ clone)
  pub within : number < length job.algorithms

pub held-there : (job : Job) (slots : List (Option Busy)) (it : Slots) (slot number ticket : ℕ)
    (clone : Option ℕ) → AreSlotsOf job slots it →
    HasClaim (busy_in slots slot) number ticket clone → Holding job slots it slot number ticket clone
held-there job slots it slot number ticket clone are has =
    let busy = held-by (busy_in slots slot) _ has in
    let claim = held-by (claim_at busy.0 number) _ busy.2 in
    let event = event-there job slots it slot busy.0 are busy.1 in
    record {
      busy = busy.0;
      there = busy.1;
      taken = subst IsSome (sym event.store) refl;
      store = ap (λ o. unwrap_or o []) event.store;
      claim = claim.0;
      claimed = claim.1;
      same = claim.2;
      within = omega (
        arith,
        event.sized.claims,
        slice_get_within busy.0.claims number (Some claim.0) (flat-there busy.0.claims number claim.0
            claim.1),
      );
    }

pub held-with : (job : Job) (slots : List (Option Busy)) (it : Slots) (slot number ticket : ℕ)
    (clone : Option ℕ) (inputs : List Product)
    (r : Bool) → (has : Holding job slots it slot number ticket clone) →
    ((a : Algorithm) → slice_get job.algorithms number ≡ Some a → (r ≡ true) ↔ (inputs ≡ inputs_in
    (products_in it.board slot) a.inputs)) →
    (r ≡ true) ↔ IsHeld job slots slot ticket number clone inputs
held-with job slots it slot number ticket clone inputs r has test =
    let a = value-at job.algorithms number has.within in
    let says = test a.0 a.1 in (
      λ e.
          holds-of (busy_in slots slot) _ has.busy has.there
          (holds-of (claim_at has.busy number) _ has.claim has.claimed (
            has.same.0,
            has.same.1,
            holds-of (slice_get job.algorithms number) _ a.0 a.1
                (says.0 e ∙ ap (λ places. inputs_in places a.0.inputs) has.store),
          )),
      λ held.
          let of_claim = holds-at (claim_at has.busy number) _ has.claim has.claimed
          (holds-at (busy_in slots slot) _ has.busy has.there held) in
          says.1 (holds-at (slice_get job.algorithms number) _ a.0 a.1 of_claim.2
          ∙ ap (λ places. inputs_in places a.0.inputs) (sym has.store)),
    )
