-- What a seat tells of its slot.
use Rattle.std.proofs.Common.{◌≡◌, ℕ, zero, suc, ◌<◌, ◌≤◌, List, [], ◌∷◌, length, get_or, slice_get, Option, Some, None, refl, sym, ap, ◌∙◌, arith}
use Rattle.std.specs.Option.{option_and_then, option_flatten, option_map}
use Rattle.std.proofs.lemmas.Option.{same_Some, slice_get_past, slice_get_read, slice_get_within}
use Rattle.event_flow.specs.Claimable.{IsFirstClaim, IsNextClaimable}
use Rattle.event_flow.specs.Events.{bare, flow_of}
use Rattle.event_flow.specs.declared.held.Held.{Held}
use Rattle.hive_model.specs.Job.{Job}
use Rattle.hive_model.specs.Machine.{Busy, Outstanding, claim_at}
use Rattle.hive_model.specs.Step.{can_claim}
use Rattle.event_slots.specs.Attempts.{IsNextIn}
use Rattle.event_slots.specs.Seats.{place_in}
use Rattle.event_slots.specs.Slots.{AreSlotsOf, IsSeatOf, Seat, Slots, busy_in}
use Rattle.event_slots.specs.Standings.{IsFirstOf, standing_at}
use Rattle.event_flow.proofs.Agreeing.{claim-same, claimable-same}
use Rattle.event_slots.proofs.Found.{event-there, holds-of, same-value, value-at}

pub seat-read : (seats : List Seat) (i slot : ℕ) (seat : Seat) → i ≡ slot → slot < length seats →
    seat ≡ get_or seats i seat →
    slice_get seats slot ≡ Some seat
seat-read seats i slot seat at within here =
    ap (slice_get seats) (sym at) ∙ slice_get_read seats (length seats) i seat refl (omega arith) here

none-past : {X : Type 0} (xs : List X) (i : ℕ) → slice_get xs i ≡ None → length xs ≤ i
none-past [] i e = omega arith
none-past (x ∷ xs) zero e = absurd (cc)
none-past (x ∷ xs) (suc i) e = omega (arith, none-past xs i e)

-- the slot of a seat

is-seat-of : (job : Job) (slots : List (Option Busy)) (it : Slots) (slot : ℕ) (seat : Seat) →
    AreSlotsOf job slots it →
    slice_get it.seats slot ≡ Some seat → (busy : Option Busy) × (slice_get slots slot ≡ Some busy) ×
    IsSeatOf job busy seat
is-seat-of job slots it slot seat are at =
    let within = slice_get_within it.seats slot seat at in
    let busy = value-at slots slot (omega (arith, are.as_many)) in
    (busy.0, busy.1, are.seats slot busy.0 seat busy.1 at)

pub record Seats (job : Job) (slots : List (Option Busy)) (slot : ℕ) (seat : Seat) : Type 0 where
  pub busy : Busy
  pub there : busy_in slots slot ≡ Some busy
  pub place : seat.place ≡ Some busy.place
  pub flow : seat.flow ≡ flow_of job busy

pub seated : (job : Job) (slots : List (Option Busy)) (it : Slots) (slot place : ℕ) (seat : Seat) →
    AreSlotsOf job slots it →
    slice_get it.seats slot ≡ Some seat → Some place ≡ seat.place → Seats job slots slot seat
seated job slots it slot place seat are at there =
    let found = is-seat-of job slots it slot seat are at in
    by found.0 found.1 found.2
  where
    by : (busy : Option Busy) → slice_get slots slot ≡ Some busy → IsSeatOf job busy seat →
        Seats job slots slot seat
    by None e is = absurd (none place (there ∙ is.0))
      where
        none : (p : ℕ) → Some p ≡ None → ⊥
        none p e = cc
    by (Some b) e is = record { busy = b; there = ap option_flatten e; place = is.0; flow = is.1 }

pub vacant : (job : Job) (slots : List (Option Busy)) (it : Slots) (slot : ℕ) (seat : Seat) (b : Busy) →
    AreSlotsOf job slots it →
    slice_get it.seats slot ≡ Some seat → None ≡ seat.place → busy_in slots slot ≡ Some b → ⊥
vacant job slots it slot seat b are at none busy =
    let has = event-there job slots it slot b are busy in
    let same = same-value (slice_get it.seats slot) seat has.seat at has.at in
    let other : None ≡ Some b.place = none ∙ ap (λ (s : Seat). s.place) same ∙ has.place in
    absurd (cc)

-- what can be claimed next

pub next-in : (job : Job) (slots : List (Option Busy)) (slot from : ℕ) (b : Busy) (found : Option ℕ) →
    busy_in slots slot ≡ Some b →
    length (flow_of job b).needs ≡ length job.algorithms →
    IsNextClaimable (flow_of job b) from found → IsNextIn job slots slot from found
next-in job slots slot from b None busy size none = λ other n there above within.
    ap (λ (x : Busy). can_claim job x n) (same-value (busy_in slots slot) other b there busy)
    ∙ sym (claimable-same job b n within) ∙ none n above
next-in job slots slot from b (Some number) busy size is =
    let within : number < length job.algorithms = omega (arith, is.1) in (
      is.0,
      within,
      holds-of (busy_in slots slot) _ b busy (sym (claimable-same job b number within) ∙ is.2),
      λ other n there above below.
          ap (λ (x : Busy). can_claim job x n) (same-value (busy_in slots slot) other b there busy)
          ∙ sym (claimable-same job b n (omega (arith, within, below))) ∙ is.3 n above below,
    )

-- the oldest claim

no-held : (o : Option Outstanding) → option_map bare o ≡ None → o ≡ None
no-held None e = refl
no-held (Some c) e = absurd (cc)

held : (o : Option Outstanding) (h : Held) → option_map bare o ≡ Some h →
    (c : Outstanding) × (o ≡ Some c) × (bare c ≡ h)
held None h e = absurd (cc)
held (Some c) h e = (c, refl, same_Some (bare c) h e)

pub first-of : (job : Job) (slots : List (Option Busy)) (slot : ℕ) (b : Busy) (found : Option (ℕ × Held)) →
    busy_in slots slot ≡ Some b →
    IsFirstClaim (flow_of job b) found → IsFirstOf slots slot (standing_at slot found)
first-of job slots slot b None busy none = (
  tt,
  λ number other there.
      ap (λ (x : Busy). claim_at x number) (same-value (busy_in slots slot) other b there busy)
      ∙ no-held (claim_at b number) (sym (claim-same job b number) ∙ none number),
)
first-of job slots slot b (Some found) busy is =
    let own = held (claim_at b found.0) found.1 (sym (claim-same job b found.0) ∙ is.there) in (
      holds-of (busy_in slots slot) _ b busy
          (holds-of (claim_at b found.0) _ own.0 own.1 (
            ap (λ (h : Held). h.ticket) own.2,
            ap (λ (h : Held).
                h.clone) own.2,
          )),
      λ number other c there claim.
          is.least number (bare c) (claim-same job b number
          ∙ ap (λ (x : Busy). option_map bare (claim_at x number)) (sym (same-value (busy_in slots slot)
          other b there busy))
          ∙ ap (option_map bare) claim),
    )

-- an empty seat's slot has no event
pub nobody : (job : Job) (slots : List (Option Busy)) (it : Slots) (slot : ℕ) (seat : Seat) →
    AreSlotsOf job slots it →
    slice_get it.seats slot ≡ Some seat → None ≡ seat.place → busy_in slots slot ≡ None
nobody job slots it slot seat are at none = by (busy_in slots slot) refl
  where
    by : (o : Option Busy) → busy_in slots slot ≡ o → busy_in slots slot ≡ None
    by None e = e
    by (Some b) e = absurd (vacant job slots it slot seat b are at none e)

-- What a seat tells of its slot by its event, nothing where it has none, is told of the slot: also where
-- there is no such slot.
pub seat-of : {Y : Type 0} (job : Job) (slots : List (Option Busy)) (it : Slots) (slot : ℕ) →
    AreSlotsOf job slots it →
    (f : Seat → Option Y) (g : Option Busy → Option Y) → g None ≡ None →
    ((o : Option Busy) (seat : Seat) → IsSeatOf job o seat → f seat ≡ g o) →
    option_and_then f (slice_get it.seats slot) ≡ g (busy_in slots slot)
seat-of {Y} job slots it slot are f g none one = by (slice_get it.seats slot) refl
  where
    by : (o : Option Seat) → slice_get it.seats slot ≡ o →
        option_and_then f (slice_get it.seats slot) ≡ g (busy_in slots slot)
    by None e =
        let past : length slots ≤ slot = omega (arith, are.as_many, none-past it.seats slot e) in
        ap (option_and_then f) e ∙ sym none
        ∙ ap (λ (o : Option (Option Busy)). g (option_flatten o)) (sym (slice_get_past slots slot past))
    by (Some seat) e =
        let busy = is-seat-of job slots it slot seat are e in
        ap (option_and_then f) e ∙ one busy.0 seat busy.2
        ∙ ap (λ (o : Option (Option Busy)). g (option_flatten o)) (sym busy.1)

place-of : (job : Job) (o : Option Busy) (seat : Seat) → IsSeatOf job o seat →
    place_in seat ≡ option_map (λ (b : Busy). b.place) o
place-of job None seat is = is.0
place-of job (Some b) seat is = is.0

pub place-same : (job : Job) (slots : List (Option Busy)) (it : Slots) (slot : ℕ) → AreSlotsOf job slots it →
    option_and_then place_in (slice_get it.seats slot) ≡ option_map (λ (b : Busy). b.place) (busy_in slots
    slot)
place-same job slots it slot are = seat-of job slots it slot are place_in (option_map (λ (b : Busy).
    b.place)) refl (place-of job)
