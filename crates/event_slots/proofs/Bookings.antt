-- A claim that was executed: what its booking needs, and what stays tied after it.
use Rattle.std.proofs.Common.{◌≡◌, ℕ, zero, suc, ◌+◌, ◌≤◌, false, is_some, List, [], ◌∷◌, length, map, set, slice_get, unwrap_or, Option, Some, None, refl, sym, ap, subst, ◌∙◌, arith}
use Rattle.std.proofs.lemmas.List.{length-append, length-map, length-set}
use Rattle.std.proofs.lemmas.Option.{same_Some, slice_get-map}
use Rattle.std.specs.List.{flat_map}
use Rattle.std.specs.Option.{option_map}
use Rattle.clone_pools.specs.Lending.{GivenBack}
use Rattle.clone_pools.specs.Loans.{Pools}
use Rattle.event_flow.proofs.Following.{completed-follows, completed-of_job}
use Rattle.event_flow.specs.Events.{flow_of}
use Rattle.event_flow.specs.Flow.{Flow}
use Rattle.event_flow.specs.Steps.{completed_in}
use Rattle.hive_model.specs.Algorithm.{Algorithm}
use Rattle.hive_model.specs.DataFlow.{AreNumberedFrom}
use Rattle.hive_model.specs.Execution.{Execution}
use Rattle.hive_model.specs.Handles.{output_kinds}
use Rattle.hive_model.specs.Job.{Job}
use Rattle.hive_model.specs.Machine.{Busy, Outstanding, claim_at}
use Rattle.hive_model.specs.Results.{Results, kept, outcome_at, outcomes, ran_at}
use Rattle.hive_model.specs.Step.{completed, written}
use Rattle.hive_model.specs.Valid.{IsValidJob}
use Rattle.hive_model.specs.declared.algorithm.Raw.{Raw}
use Rattle.hive_model.specs.declared.lent.Lent.{Lent as Loan}
use Rattle.hive_model.specs.declared.product.Product.{Product}
use Rattle.loan_laws.proofs.GivingBack.{pools-given-back}
use Rattle.whiteboard.specs.Slots.{Slots as Board, products_in, with_store}
use Rattle.event_slots.specs.Booking.{CanBook, CanComplete, CanReturn}
use Rattle.event_slots.specs.Places.{AreEmpty}
use Rattle.event_slots.specs.Seats.{CanFinish}
use Rattle.event_slots.specs.Slots.{AreSlotsOf, IsSeatOf, Seat, Slots, busy_in}
use Rattle.event_slots.proofs.Found.{HasEvent, event-there, holds-at}
use Rattle.event_slots.proofs.Returns.{claim-held, returned}
use Rattle.event_slots.proofs.Ties.{board-changed, event-changed}

-- an algorithm's outputs have handles of the job

outputs-numbered : (next : ℕ) (algorithms : List Algorithm) (i : ℕ) (a : Algorithm) →
    AreNumberedFrom next algorithms →
    slice_get algorithms i ≡ Some a → a.first_output + length a.outputs ≤ next + length (flat_map
    output_kinds algorithms)
outputs-numbered next [] i a numbered at = absurd (cc)
outputs-numbered next (x ∷ xs) zero a numbered at =
    let here : x ≡ a = same_Some x a at in
    subst (λ (y : Algorithm). y.first_output + length y.outputs ≤ next + length (flat_map output_kinds (x ∷
    xs))) here
    (omega (
      arith,
      numbered.0,
      length-append (output_kinds x) (flat_map output_kinds xs),
      length-map x.outputs (λ (o : _). o.kind),
    ))
outputs-numbered next (x ∷ xs) (suc i) a numbered at =
    let rest = outputs-numbered (next + length x.outputs) xs i a numbered.1 at in
    omega (
      arith,
      rest,
      length-append (output_kinds x) (flat_map output_kinds xs),
      length-map x.outputs (λ (o : _). o.kind),
    )

pub few-handles : (job : Job) (number : ℕ) (a : Algorithm) → IsValidJob job →
    slice_get job.algorithms number ≡ Some a →
    a.first_output + length a.outputs ≤ 1024
few-handles job number a valid at =
    let within = outputs-numbered (length job.raws) job.algorithms number a valid.numbered at in
    omega (
      arith,
      within,
      valid.limits.handles,
      length-append (map (λ (r : Raw). r.kind) job.raws) (flat_map output_kinds job.algorithms),
      length-map job.raws (λ (r : Raw). r.kind),
    )

-- what the flow needs

unrun-outcome : (ran : Results) (number : ℕ) → ran_at ran number ≡ None →
    outcome_at (outcomes ran) number ≡ None
unrun-outcome [] number e = refl
unrun-outcome (None ∷ ran) zero e = refl
unrun-outcome (Some x ∷ ran) zero e = absurd (cc)
unrun-outcome (x ∷ ran) (suc number) e = unrun-outcome ran number e

missing-flags : (places : List (Option Product)) (k : ℕ) → slice_get places k ≡ Some None →
    slice_get (map is_some places) k ≡ Some false
missing-flags places k e = slice_get-map is_some places k ∙ ap (option_map is_some) e

flow-outcomes : (job : Job) (b : Busy) → (flow_of job b).outcomes ≡ outcomes b.ran
unfolding flow_of
flow-outcomes job b = refl

flow-arrived : (job : Job) (b : Busy) → (flow_of job b).arrived ≡ map is_some b.store
unfolding flow_of
flow-arrived job b = refl

pub can-finish : (job : Job) (slots : List (Option Busy)) (it : Slots) (slot : ℕ) (b : Busy)
    (number first count : ℕ) (c : Outstanding)
    (a : Algorithm) (done : Execution) → (has : HasEvent job slots it slot b) → slice_get job.algorithms
    number ≡ Some a →
    claim_at b number ≡ Some c → CanBook job b number a done → first ≡ a.first_output → count ≡ length
    done.outputs →
    CanFinish has.seat.flow number first count
can-finish job slots it slot b number first count c a done has of_job claimed can at long =
    let held = claim-held job slots it slot b number c a has of_job claimed in
    record {
      within = held.0;
      held = held.1;
      unrun = ap (λ (f : Flow). outcome_at f.outcomes number) has.flow
          ∙ ap (λ them. outcome_at them number) (flow-outcomes job b)
          ∙ unrun-outcome b.ran number can.unrun;
      missing = λ i below.
          ap (λ (f : Flow). slice_get f.arrived (first + i)) has.flow
          ∙ ap (λ flags. slice_get flags (first + i)) (flow-arrived job b)
          ∙ missing-flags b.store (first + i) (ap (λ k. slice_get b.store (k + i)) at
          ∙ can.free i (omega (arith, long, below)));
    }

-- the places of the outputs are empty on the whiteboard
pub places-empty : (job : Job) (slots : List (Option Busy)) (it : Slots) (slot : ℕ) (b : Busy)
    (number first count : ℕ) (a : Algorithm)
    (done : Execution) → HasEvent job slots it slot b → CanBook job b number a done → first ≡ a.first_output →
    count ≡ length done.outputs → AreEmpty (products_in it.board slot) first count
places-empty job slots it slot b number first count a done has can at long i below =
    ap (λ o. slice_get (unwrap_or o []) (first + i)) has.store
    ∙ (ap (λ k. slice_get b.store (k + i)) at ∙ can.free i (omega (arith, long, below)))

-- after it

length-written : (handle : ℕ) (ps : List Product) (places : List (Option Product)) →
    length (written handle ps places) ≡ length places
length-written handle [] places = refl
length-written handle (p ∷ ps) places = length-written (handle + 1) ps (set places handle (Some p))
    ∙ length-set places handle (Some p)

seat-completed : (job : Job) (b : Busy) (seat : Seat) (number : ℕ) (a : Algorithm) (done : Execution) →
    IsSeatOf job (Some b) seat →
    IsSeatOf job (Some (completed b number a done))
    (record seat {
      flow = completed_in seat.flow number done.outcome a.first_output (length (kept (Some
          done)));
    })
unfolding completed
seat-completed job b seat number a done is = (
  is.0,
  ap (λ (f : Flow). completed_in f number done.outcome a.first_output (length (kept (Some done)))) is.1
      ∙ sym (completed-follows job b number a done),
  record {
    ran = length-set b.ran number (Some done) ∙ is.2.ran;
    store = length-written a.first_output (kept (Some done)) b.store ∙ is.2.store;
    claims = length-set b.claims number None ∙ is.2.claims;
  },
  completed-of_job job seat.flow number done.outcome a.first_output (length (kept (Some done))) is.3,
)

completed-store : (b : Busy) (number : ℕ) (a : Algorithm) (done : Execution) →
    (completed b number a done).store ≡ written a.first_output (kept (Some done)) b.store
unfolding completed
completed-store b number a done = refl

completed-claims : (b : Busy) (number : ℕ) (a : Algorithm) (done : Execution) →
    (completed b number a done).claims ≡ set b.claims number None
unfolding completed
completed-claims b number a done = refl

pub complete-tied : (job : Job) (slots : List (Option Busy)) (old : Slots) (slot first count : ℕ) (b : Busy)
    (c : Outstanding) (a : Algorithm)
    (lent : Loan) (done : Execution) (seat : Seat) (later : List Seat) (board : Board) (pools : Pools) →
    AreSlotsOf job slots old → busy_in slots slot ≡ Some b → claim_at b lent.algorithm ≡ Some c → c.clone ≡
    lent.clone →
    slice_get job.algorithms lent.algorithm ≡ Some a → slice_get old.seats slot ≡ Some seat →
    first ≡ a.first_output → count ≡ length done.outputs → kept (Some done) ≡ done.outputs →
    later ≡ set old.seats slot (record seat {
      flow = completed_in seat.flow lent.algorithm done.outcome first
          count;
    }) →
    board ≡ with_store old.board slot (written first done.outputs (products_in old.board slot)) → GivenBack
    old.pools lent pools →
    AreSlotsOf job (set slots slot (Some (completed b lent.algorithm a done)))
    (record { bodies = old.bodies; seats = later; board = board; pools = pools; order = old.order })
complete-tied job slots old slot first count b c a lent done seat later board pools are busy claimed same
    of_job at start long whole sits
    shows back =
    let it = event-there job slots old slot b are busy in
    let next = completed b lent.algorithm a done in
    let store : written first done.outputs (products_in old.board slot) ≡ next.store =
    ap (λ h. written h done.outputs (products_in old.board slot)) start
    ∙ ap (λ ps. written a.first_output ps (products_in old.board slot)) (sym whole)
    ∙ ap (λ o. written a.first_output (kept (Some done)) (unwrap_or o [])) it.store
    ∙ sym (completed-store b lent.algorithm a done) in
    let flow : record seat { flow = completed_in seat.flow lent.algorithm done.outcome first count }
    ≡ record seat {
      flow = completed_in seat.flow lent.algorithm done.outcome a.first_output (length (kept
          (Some done)));
    } =
    ap (λ h. record seat { flow = completed_in seat.flow lent.algorithm done.outcome h count }) start
    ∙ ap (λ n. record seat { flow = completed_in seat.flow lent.algorithm done.outcome a.first_output n })
    (long ∙ ap length (sym whole)) in
    event-changed job slots old slot b next _ later board pools are busy
    (seat-completed job b seat lent.algorithm a done (are.seats slot (Some b) seat it.there at)) (sits
    ∙ ap (set old.seats slot) flow)
    (shows ∙ ap (with_store old.board slot) store ∙ ap (λ (them : Board). with_store them slot next.store)
    are.board
    ∙ board-changed job slots slot next)
    (pools-given-back job slots old.pools pools slot b next a c lent are.pools it.there of_job claimed same
    back
    (completed-claims b lent.algorithm a done))

-- whose claim is booked

pub record Books (job : Job) (slots : List (Option Busy)) (it : Slots) (slot : ℕ) (lent : Loan) (done :
    Execution) : Type 0 where
  pub busy : Busy
  pub there : busy_in slots slot ≡ Some busy
  pub has : HasEvent job slots it slot busy
  pub claim : Outstanding
  pub claimed : claim_at busy lent.algorithm ≡ Some claim
  pub algorithm : Algorithm
  pub of_job : slice_get job.algorithms lent.algorithm ≡ Some algorithm
  pub can : CanBook job busy lent.algorithm algorithm done

pub booked : (job : Job) (slots : List (Option Busy)) (it : Slots) (slot : ℕ) (lent : Loan)
    (done : Execution) → AreSlotsOf job slots it →
    CanReturn job slots slot lent → CanComplete job slots slot lent.algorithm done → Books job slots it slot
    lent done
booked job slots it slot lent done are back can =
    let of = returned job slots it slot lent are back in
    record {
      busy = of.busy;
      there = of.there;
      has = event-there job slots it slot of.busy are of.there;
      claim = of.claim;
      claimed = of.claimed;
      algorithm = of.algorithm;
      of_job = of.of_job;
      can = holds-at (slice_get job.algorithms lent.algorithm) _ of.algorithm of.of_job
          (holds-at (busy_in slots slot) _ of.busy of.there can);
    }
