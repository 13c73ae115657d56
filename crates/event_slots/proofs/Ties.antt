-- One slot changes: where its seat, its store, the loans and the order go with it, all slots stay tied to
-- what is kept.
use Rattle.std.proofs.Common.{◌≡◌, ◌≢◌, inl, inr, ℕ, ◌<◌, List, length, map, set, slice_get, Option, Some, None, IsSome, refl, sym, ap, subst, ◌∙◌, arith}
use Rattle.std.specs.Option.{option_flatten, option_map}
use Rattle.std.proofs.lemmas.Bool.{cases_eq}
use Rattle.std.proofs.lemmas.List.{length-set, map-set, set-get_or}
use Rattle.std.proofs.lemmas.Option.{get_or_from_slice_get, same_Some}
use Rattle.loan_laws.proofs.Counting.{get-set_other, get-set_same}
use Rattle.clone_pools.specs.Loans.{Pools}
use Rattle.hive_model.specs.Handles.{handle_count}
use Rattle.hive_model.specs.Job.{Job}
use Rattle.hive_model.specs.Machine.{Busy}
use Rattle.hive_model.specs.declared.product.Product.{Product}
use Rattle.loan_laws.specs.Loans.{ArePoolsOf}
use Rattle.whiteboard.specs.Slots.{Slots as Board, with_store}
use Rattle.event_slots.specs.Slots.{AreSlotsOf, IsOrderOf, IsSeatOf, Seat, Slots, board_of, busy_in}
use Rattle.event_slots.proofs.Found.{event-there}

-- what stands in the slot and in the others

pub busy-same : (slots : List (Option Busy)) (slot : ℕ) (busy : Option Busy) → slot < length slots →
    busy_in (set slots slot busy) slot ≡ busy
busy-same slots slot busy within = ap option_flatten (get-set_same slots slot busy within)

pub busy-other : (slots : List (Option Busy)) (slot s : ℕ) (busy : Option Busy) → s ≢ slot →
    busy_in (set slots slot busy) s ≡ busy_in slots s
busy-other slots slot s busy other = ap option_flatten (get-set_other slots slot s busy other)

seats-changed : (job : Job) (slots : List (Option Busy)) (seats : List Seat) (slot : ℕ) (busy : Option Busy)
    (seat : Seat) →
    length seats ≡ length slots →
    ((s : ℕ) (o : Option Busy) (x : Seat) → slice_get slots s ≡ Some o → slice_get seats s ≡ Some x →
    IsSeatOf job o x) →
    IsSeatOf job busy seat → slot < length slots →
    (s : ℕ) (o : Option Busy) (x : Seat) → slice_get (set slots slot busy) s ≡ Some o → slice_get (set seats
    slot seat) s ≡ Some x →
    IsSeatOf job o x
seats-changed job slots seats slot busy seat many before now within s o x there at =
    elim (cases_eq s slot) [
      | inl eq ↦
          let here : busy ≡ o =
          same_Some busy o (sym (get-set_same slots slot busy within)
          ∙ (ap (slice_get (set slots slot busy)) (sym eq) ∙ there)) in
          let sits : seat ≡ x =
          same_Some seat x (sym (get-set_same seats slot seat (omega arith))
          ∙ (ap (slice_get (set seats slot seat)) (sym eq) ∙ at)) in
          subst (λ y. IsSeatOf job o y) sits (subst (λ p. IsSeatOf job p seat) here now)
      | inr other ↦
          before s o x (sym (get-set_other slots slot s busy other)
          ∙ there) (sym (get-set_other seats slot s seat other) ∙ at)
    ]

pub slot-changed : (job : Job) (slots : List (Option Busy)) (old : Slots) (slot : ℕ) (busy : Option Busy)
    (seat : Seat)
    (board : Board) (pools : Pools) (order : List ℕ) →
    AreSlotsOf job slots old → slot < length slots → IsSeatOf job busy seat → board ≡ board_of job (set slots
    slot busy) →
    ArePoolsOf job (set slots slot busy) pools → IsOrderOf (set slots slot busy) order →
    AreSlotsOf job (set slots slot busy)
    (record {
      bodies = old.bodies;
      seats = set old.seats slot seat;
      board = board;
      pools = pools;
      order =
          order;
    })
slot-changed job slots old slot busy seat board pools order are within sits shows lends orders = record {
  bodies = are.bodies;
  as_many = length-set old.seats slot seat ∙ are.as_many ∙ sym (length-set slots slot busy);
  few = omega (arith, length-set slots slot busy, are.few);
  seats = seats-changed job slots old.seats slot busy seat are.as_many are.seats sits within;
  board = shows;
  pools = lends;
  order = orders;
}

-- the whiteboard

abbrev pub store_of : Option Busy → Option (List (Option Product))
store_of busy = option_map (λ (b : Busy). b.store) busy

pub board-changed : (job : Job) (slots : List (Option Busy)) (slot : ℕ) (b : Busy) →
    with_store (board_of job slots) slot b.store ≡ board_of job (set slots slot (Some b))
board-changed job slots slot b =
    ap (λ (them : List (Option (List (Option Product)))). record { slots = them; handles = handle_count job })
    (sym (map-set store_of slots slot (Some b)))

-- the same store again
pub board-kept : (job : Job) (slots : List (Option Busy)) (slot : ℕ) (old new : Busy) →
    slice_get slots slot ≡ Some (Some old) →
    new.store ≡ old.store → board_of job slots ≡ board_of job (set slots slot (Some new))
board-kept job slots slot old new there same =
    ap (λ (them : List (Option (List (Option Product)))). record { slots = them; handles = handle_count job })
    (ap (map store_of) (sym (set-get_or slots slot None)
    ∙ ap (set slots slot) (get_or_from_slice_get slots slot (Some old) None there))
    ∙ map-set store_of slots slot (Some old)
    ∙ ap (λ places. set (map store_of slots) slot (Some places)) (sym same)
    ∙ sym (map-set store_of slots slot (Some new)))

-- the order

pub still-busy : (slots : List (Option Busy)) (slot s : ℕ) (new : Busy) → slot < length slots →
    IsSome (busy_in slots s) → IsSome (busy_in (set slots slot (Some new)) s)
still-busy slots slot s new within is =
    elim (cases_eq s slot) [
      | inl eq ↦ subst IsSome (sym (ap (busy_in (set slots slot (Some new))) eq
          ∙ busy-same slots slot (Some new) within)) refl
      | inr other ↦ subst IsSome (sym (busy-other slots slot s (Some new) other)) is
    ]

order-kept : (job : Job) (slots : List (Option Busy)) (it : Slots) (slot : ℕ) (old new : Busy) →
    AreSlotsOf job slots it →
    busy_in slots slot ≡ Some old → IsOrderOf (set slots slot (Some new)) it.order
order-kept job slots it slot old new are busy = record {
  all = λ s b there.
      elim (cases_eq s slot) [
        | inl eq ↦ are.order.all s old (ap (busy_in slots) eq ∙ busy)
        | inr other ↦ are.order.all s b (sym (busy-other slots slot s (Some new) other) ∙ there)
      ];
  only = λ at s stands. still-busy slots slot s new (event-there job slots it slot old are busy).within
      (are.order.only at s stands);
  once = are.order.once;
}

-- an event in a slot goes on
pub event-changed : (job : Job) (slots : List (Option Busy)) (old : Slots) (slot : ℕ) (b new : Busy)
    (seat : Seat) (later : List Seat)
    (board : Board) (pools : Pools) →
    AreSlotsOf job slots old → busy_in slots slot ≡ Some b → IsSeatOf job (Some new) seat → later ≡ set
    old.seats slot seat →
    board ≡ board_of job (set slots slot (Some new)) → ArePoolsOf job (set slots slot (Some new)) pools →
    AreSlotsOf job (set slots slot (Some new))
    (record { bodies = old.bodies; seats = later; board = board; pools = pools; order = old.order })
event-changed job slots old slot b new seat later board pools are busy sits changed shows lends =
    let it = event-there job slots old slot b are busy in
    subst (λ (them : List Seat). AreSlotsOf job (set slots slot (Some new))
    (record { bodies = old.bodies; seats = them; board = board; pools = pools; order = old.order })) (sym
    changed)
    (slot-changed job slots old slot (Some new) seat board pools old.order are it.within sits shows lends
    (order-kept job slots old slot b new are busy))
