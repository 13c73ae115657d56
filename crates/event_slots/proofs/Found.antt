-- The event in a slot: where it stands in what the slots keep.
use Rattle.std.proofs.Common.{◌≡◌, ℕ, zero, suc, ◌<◌, ◌≤◌, List, [], ◌∷◌, length, get_or, set, slice_get, Option, Some, None, IsSomeAnd, refl, sym, ap, subst, ◌∙◌, arith}
use Rattle.std.specs.Option.{option_flatten, option_map}
use Rattle.std.proofs.lemmas.List.{length-set}
use Rattle.std.proofs.lemmas.Option.{same_Some, slice_get-map, slice_get_read, slice_get_within}
use Rattle.event_flow.specs.Events.{IsFlowFor, flow_of}
use Rattle.hive_model.specs.Job.{Job}
use Rattle.hive_model.specs.Machine.{Busy}
use Rattle.whiteboard.specs.Slots.{Slots as Board, store_in}
use Rattle.event_slots.specs.Slots.{AreSlotsOf, IsSeatOf, IsSized, Seat, Slots, busy_in}
use Rattle.event_slots.proofs.Boards.{flat-there, some-there}

-- a value of which something holds

pub held-by : {X : Type 0} (o : Option X) (P : X → Type 0) → IsSomeAnd o P → (x : X) × (o ≡ Some x) × P x
held-by None P h = absurd h
held-by (Some x) P h = (x, refl, h)

pub holds-of : {X : Type 0} (o : Option X) (P : X → Type 0) (x : X) → o ≡ Some x → P x → IsSomeAnd o P
holds-of o P x e h = subst (λ o. IsSomeAnd o P) (sym e) h

pub holds-at : {X : Type 0} (o : Option X) (P : X → Type 0) (x : X) → o ≡ Some x → IsSomeAnd o P → P x
holds-at o P x e h = subst (λ o. IsSomeAnd o P) e h

pub same-value : {X : Type 0} (o : Option X) (x y : X) → o ≡ Some x → o ≡ Some y → x ≡ y
same-value o x y e f = same_Some x y (sym e ∙ f)

-- some value stands at a place within

pub value-at : {X : Type 0} (xs : List X) (i : ℕ) → i < length xs → (x : X) × (slice_get xs i ≡ Some x)
value-at [] i h = absurd (omega arith)
value-at (x ∷ xs) zero h = (x, refl)
value-at (x ∷ xs) (suc i) h = value-at xs i (omega arith)

-- the seat of a slot

pub record HasSeat (job : Job) (slots : List (Option Busy)) (it : Slots) (slot : ℕ) (busy : Option Busy) :
    Type 0 where
  pub seat : Seat
  pub at : slice_get it.seats slot ≡ Some seat
  pub is : IsSeatOf job busy seat
  pub within : slot < length slots

pub seat-there : (job : Job) (slots : List (Option Busy)) (it : Slots) (slot : ℕ) (busy : Option Busy) →
    AreSlotsOf job slots it → slice_get slots slot ≡ Some busy → HasSeat job slots it slot busy
seat-there job slots it slot busy are there =
    let within = slice_get_within slots slot busy there in
    let seat = value-at it.seats slot (omega (arith, are.as_many)) in
    record {
      seat = seat.0;
      at = seat.1;
      is = are.seats slot busy seat.0 there seat.1;
      within = within;
    }

pub record HasEvent (job : Job) (slots : List (Option Busy)) (it : Slots) (slot : ℕ) (b : Busy) : Type 0 where
  pub there : slice_get slots slot ≡ Some (Some b)
  pub within : slot < length slots
  pub seat : Seat
  pub at : slice_get it.seats slot ≡ Some seat
  pub place : seat.place ≡ Some b.place
  pub flow : seat.flow ≡ flow_of job b
  pub sized : IsSized job b
  pub of_job : IsFlowFor job seat.flow
  pub store : store_in it.board slot ≡ Some b.store

pub event-there : (job : Job) (slots : List (Option Busy)) (it : Slots) (slot : ℕ) (b : Busy) →
    AreSlotsOf job slots it → busy_in slots slot ≡ Some b → HasEvent job slots it slot b
event-there job slots it slot b are busy =
    let there = flat-there slots slot b busy in
    let seat = seat-there job slots it slot (Some b) are there in
    record {
      there = there;
      within = seat.within;
      seat = seat.seat;
      at = seat.at;
      place = seat.is.0;
      flow = seat.is.1;
      sized = seat.is.2;
      of_job = seat.is.3;
      store = ap (λ (board : Board). store_in board slot) are.board
          ∙ ap option_flatten (slice_get-map (option_map (λ (b : Busy). b.store)) slots slot
          ∙ ap (option_map (option_map (λ (b : Busy). b.store))) there);
    }

-- an event of the order stands in a slot
pub event-in-order : (job : Job) (slots : List (Option Busy)) (it : Slots) (at slot : ℕ) →
    AreSlotsOf job slots it → slice_get it.order at ≡ Some slot → slot < length slots
event-in-order job slots it at slot are stands =
    let some = some-there (busy_in slots slot) (are.order.only at slot stands) in
    (event-there job slots it slot some.0 are some.1).within

-- no seat more
pub as-few : (seats later : List Seat) (slot most : ℕ) (seat : Seat) → later ≡ set seats slot seat →
    length seats ≤ most →
    length later ≤ most
as-few seats later slot most seat is few = omega (arith, ap length is, length-set seats slot seat)

-- an element that was read where the list is known by another name
pub read-at : {X : Type 0} (items known : List X) (i : ℕ) (x : X) → items ≡ known → i < length known →
    x ≡ get_or items i x →
    slice_get known i ≡ Some x
read-at items known i x same within here =
    ap (λ them. slice_get them i) (sym same)
    ∙ slice_get_read items (length items) i x refl (omega (arith, ap length same)) here
