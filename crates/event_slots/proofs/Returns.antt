-- A claim that comes back without having run: what it needs, and what stays tied after it.
use Rattle.std.proofs.Common.{◌≡◌, ℕ, ◌<◌, true, List, length, set, slice_get, Option, Some, None, IsSome, refl, sym, ap, subst, ◌∙◌, arith}
use Rattle.std.proofs.lemmas.List.{length-set}
use Rattle.std.proofs.lemmas.Option.{slice_get_within}
use Rattle.std.specs.Option.{option_map}
use Rattle.clone_pools.specs.Lending.{ComesBack, GivenBack}
use Rattle.clone_pools.specs.Loans.{Pools, is_lent}
use Rattle.event_flow.proofs.Agreeing.{claim-same}
use Rattle.event_flow.proofs.Following.{put_back-follows, put_back-of_job}
use Rattle.event_flow.specs.Events.{bare}
use Rattle.event_flow.specs.Flow.{Flow, claim_in}
use Rattle.event_flow.specs.Steps.{without_claim}
use Rattle.event_flow.specs.declared.held.Held.{Held}
use Rattle.hive_model.specs.Algorithm.{Algorithm}
use Rattle.hive_model.specs.Job.{Job}
use Rattle.hive_model.specs.Machine.{Busy, Outstanding, claim_at}
use Rattle.hive_model.specs.declared.lent.Lent.{Lent as Loan}
use Rattle.loan_laws.proofs.GivingBack.{claim-is-lent, pools-given-back}
use Rattle.loan_laws.proofs.Undoing.{scratch-fits}
use Rattle.event_slots.specs.Booking.{CanReturn}
use Rattle.event_slots.specs.Slots.{AreSlotsOf, IsSeatOf, Seat, Slots, busy_in}
use Rattle.event_slots.proofs.Claims.{needs-length}
use Rattle.event_slots.proofs.Found.{HasEvent, event-there, held-by}
use Rattle.event_slots.proofs.Ties.{board-kept, event-changed}

-- whose claim it is

pub record Returns (job : Job) (slots : List (Option Busy)) (it : Slots) (slot : ℕ) (lent : Loan) : Type 0
  where
    pub busy : Busy
    pub there : busy_in slots slot ≡ Some busy
    pub claim : Outstanding
    pub claimed : claim_at busy lent.algorithm ≡ Some claim
    pub same : claim.clone ≡ lent.clone
    pub algorithm : Algorithm
    pub of_job : slice_get job.algorithms lent.algorithm ≡ Some algorithm
    pub is_out : is_lent it.pools lent.algorithm lent.clone ≡ true
    pub fits : ComesBack it.pools lent

lent-out : (job : Job) (slots : List (Option Busy)) (it : Slots) (slot number : ℕ) (clone : Option ℕ)
    (b : Busy) (c : Outstanding)
    (a : Algorithm) → AreSlotsOf job slots it → busy_in slots slot ≡ Some b → claim_at b number ≡ Some c →
    c.clone ≡ clone →
    slice_get job.algorithms number ≡ Some a → is_lent it.pools number clone ≡ true
lent-out job slots it slot number clone b c a are busy claimed same of_job =
    let has = event-there job slots it slot b are busy in
    subst (λ o. is_lent it.pools number o ≡ true) same
    (claim-is-lent job slots it.pools slot number b a c are.pools has.there of_job claimed)

pub returned : (job : Job) (slots : List (Option Busy)) (it : Slots) (slot : ℕ) (lent : Loan) →
    AreSlotsOf job slots it →
    CanReturn job slots slot lent → Returns job slots it slot lent
returned job slots it slot lent are can =
    let busy = held-by _ _ can.0 in
    let claim = held-by _ _ busy.2 in
    let of = held-by _ _ can.1 in
    record {
      busy = busy.0;
      there = busy.1;
      claim = claim.0;
      claimed = claim.1;
      same = claim.2;
      algorithm = of.0;
      of_job = of.1;
      is_out = lent-out job slots it slot lent.algorithm lent.clone busy.0 claim.0 of.0 are busy.1 claim.1
          claim.2 of.1;
      fits = scratch-fits job slots it.pools of.0 lent are.pools of.1 of.2;
    }

-- the seat has the claim

held-there : (o : Option Held) (p : Option Outstanding) (c : Outstanding) → o ≡ option_map bare p →
    p ≡ Some c → IsSome o
held-there o p c e f = subst IsSome (sym (e ∙ ap (option_map bare) f)) refl

pub claim-held : (job : Job) (slots : List (Option Busy)) (it : Slots) (slot : ℕ) (b : Busy) (number : ℕ)
    (c : Outstanding) (a : Algorithm) →
    (has : HasEvent job slots it slot b) → slice_get job.algorithms number ≡ Some a → claim_at b number ≡
    Some c →
    (number < length has.seat.flow.needs) × IsSome (claim_in has.seat.flow number)
claim-held job slots it slot b number c a has of_job claimed = (
  omega (arith, needs-length job has.seat.flow has.of_job, slice_get_within job.algorithms number a of_job),
  held-there (claim_in has.seat.flow number) (claim_at b number) c (ap (λ f. claim_in f number) has.flow
      ∙ claim-same job b number) claimed,
)

seat-returned : (job : Job) (b : Busy) (seat : Seat) (number : ℕ) → IsSeatOf job (Some b) seat →
    IsSeatOf job (Some (record b { claims = set b.claims number None })) (record seat {
      flow = without_claim
          seat.flow number;
    })
seat-returned job b seat number is = (
  is.0,
  ap (λ (f : Flow). without_claim f number) is.1 ∙ sym (put_back-follows job b number),
  record { ran = is.2.ran; store = is.2.store; claims = length-set b.claims number None ∙ is.2.claims },
  put_back-of_job job seat.flow number is.3,
)

pub return-tied : (job : Job) (slots : List (Option Busy)) (old : Slots) (slot : ℕ) (b : Busy)
    (c : Outstanding) (a : Algorithm) (lent : Loan)
    (seat : Seat) (later : List Seat) (pools : Pools) →
    AreSlotsOf job slots old → busy_in slots slot ≡ Some b → claim_at b lent.algorithm ≡ Some c → c.clone ≡
    lent.clone →
    slice_get job.algorithms lent.algorithm ≡ Some a → slice_get old.seats slot ≡ Some seat →
    later ≡ set old.seats slot (record seat { flow = without_claim seat.flow lent.algorithm }) → GivenBack
    old.pools lent pools →
    AreSlotsOf job (set slots slot (Some (record b { claims = set b.claims lent.algorithm None })))
    (record { bodies = old.bodies; seats = later; board = old.board; pools = pools; order = old.order })
return-tied job slots old slot b c a lent seat later pools are busy claimed same of_job at sits back =
    let it = event-there job slots old slot b are busy in
    let next : Busy = record b { claims = set b.claims lent.algorithm None } in
    event-changed job slots old slot b next _ later old.board pools are busy
    (seat-returned job b seat lent.algorithm (are.seats slot (Some b) seat it.there at)) sits
    (are.board ∙ board-kept job slots slot b next it.there refl)
    (pools-given-back job slots old.pools pools slot b next a c lent are.pools it.there of_job claimed same
    back refl)
