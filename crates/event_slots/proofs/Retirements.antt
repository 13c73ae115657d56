-- A settled event leaves its slot: its result, and what is tied then.
use Rattle.std.proofs.Common.{◌≡◌, ◌≢◌, ◌⊎◌, inl, inr, ℕ, zero, suc, nat_eq, ◌<◌, Bool, true, false, true≢false, cond, not, is_some, List, [], ◌∷◌, length, set, slice_get, Option, Some, None, IsSome, refl, sym, ap, subst, ◌∙◌, arith}
use Rattle.std.proofs.lemmas.Bool.{and_parts, cases_eq, eq-eqb, eqb-true}
use Rattle.std.proofs.lemmas.List.{map-set}
use Rattle.std.proofs.lemmas.Option.{none-some, same_Some}
use Rattle.std.specs.List.{list_any, range_with_len}
use Rattle.event_flow.proofs.Agreeing.{decisions-same, ends-same}
use Rattle.event_flow.specs.Told.{decisions_in, ends_in}
use Rattle.hive_model.specs.Enabled.{is_enabled}
use Rattle.hive_model.specs.Event.{decisions_of, ends_of, status_of}
use Rattle.hive_model.specs.EventResult.{EventResult}
use Rattle.hive_model.specs.Handles.{handle_count}
use Rattle.hive_model.specs.Job.{Job}
use Rattle.hive_model.specs.Machine.{Busy}
use Rattle.hive_model.specs.Results.{outcomes}
use Rattle.hive_model.specs.Step.{is_settled}
use Rattle.hive_model.specs.declared.decision.Decision.{Decision}
use Rattle.hive_model.specs.declared.decision.End.{End}
use Rattle.hive_model.specs.declared.decision.EventStatus.{EventStatus}
use Rattle.hive_model.specs.declared.product.Product.{Product}
use Rattle.loan_laws.proofs.Opening.{pools-after-retirement}
use Rattle.whiteboard.specs.Slots.{Slots as Board, without_store}
use Rattle.event_slots.specs.Booking.{result_in}
use Rattle.event_slots.specs.Orders.{without}
use Rattle.event_slots.specs.Slots.{AreSlotsOf, IsOnce, IsOrderOf, Seat, Slots, StandsIn, board_of, busy_in}
use Rattle.event_slots.proofs.Found.{HasEvent, event-there}
use Rattle.event_slots.proofs.Ties.{busy-other, busy-same, slot-changed, store_of}

-- the result

pub same-result : (number : ℕ) (status : EventStatus) (decisions : List Decision) (ends : List End)
    (store : List (Option Product))
    (job : Job) (b : Busy) → decisions ≡ decisions_of job (outcomes b.ran) → ends ≡ ends_of job (outcomes
    b.ran) →
    status ≡ status_of ends → store ≡ b.store →
    ◌≡◌ {A = EventResult} (record {
      event = number;
      status = status;
      decisions = decisions;
      ends = ends;
      store = store;
    }) (result_in job b number)
same-result number status decisions ends store job b d e s p =
    let same : status ≡ status_of (ends_of job (outcomes b.ran)) = s ∙ ap status_of e in
    cc

pub told-decisions : (job : Job) (slots : List (Option Busy)) (it : Slots) (slot : ℕ) (b : Busy) →
    (has : HasEvent job slots it slot b) →
    decisions_in has.seat.flow ≡ decisions_of job (outcomes b.ran)
told-decisions job slots it slot b has = ap decisions_in has.flow ∙ decisions-same job b

pub told-ends : (job : Job) (slots : List (Option Busy)) (it : Slots) (slot : ℕ) (b : Busy) →
    (has : HasEvent job slots it slot b) →
    ends_in has.seat.flow ≡ ends_of job (outcomes b.ran)
told-ends job slots it slot b has = ap ends_in has.flow ∙ ends-same job b

-- the order without the slot

later-stands : (t : Bool) (x s : ℕ) (rest : List ℕ) → StandsIn rest s → StandsIn (cond t (x ∷ rest) rest) s
later-stands true x s rest stands = (suc stands.0, stands.1)
later-stands false x s rest stands = stands

first-stands : (t : Bool) (x s : ℕ) (rest : List ℕ) → t ≡ true → x ≡ s → StandsIn (cond t (x ∷ rest) rest) s
first-stands true x s rest e same = (zero, ap Some same)
first-stands false x s rest e same = absurd (cc)

stood : (t : Bool) (x s : ℕ) (rest : List ℕ) → StandsIn (cond t (x ∷ rest) rest) s → (x ≡ s) ⊎ StandsIn rest s
stood true x s rest (zero, e) = inl (same_Some x s e)
stood true x s rest (suc at, e) = inr (at, e)
stood false x s rest stands = inr stands

not-same : (x slot : ℕ) → x ≢ slot → not (nat_eq x slot) ≡ true
not-same x slot other = by (nat_eq x slot) refl
  where
    by : (t : Bool) → nat_eq x slot ≡ t → not (nat_eq x slot) ≡ true
    by true e = absurd (other (eqb-true x slot e))
    by false e = ap not e

others-stay : (slot s : ℕ) (order : List ℕ) (at : ℕ) → s ≢ slot → slice_get order at ≡ Some s →
    StandsIn (without slot order) s
others-stay slot s [] at other e = absurd (cc)
others-stay slot s (x ∷ order) zero other e =
    let same = same_Some x s e in
    first-stands (not (nat_eq x slot)) x s (without slot order) (not-same x slot (λ is. other (sym same
    ∙ is))) same
others-stay slot s (x ∷ order) (suc at) other e =
    later-stands (not (nat_eq x slot)) x s (without slot order) (others-stay slot s order at other e)

stood-before : (slot s : ℕ) (order : List ℕ) → StandsIn (without slot order) s → StandsIn order s
stood-before slot s [] (at, e) = absurd (cc)
stood-before slot s (x ∷ order) stands =
    elim (stood (not (nat_eq x slot)) x s (without slot order) stands) [
      | inl same ↦ (zero, ap Some same)
      | inr rest ↦ (let before = stood-before slot s order rest in (suc before.0, before.1))
    ]

once-after : (slot x s : ℕ) (order : List ℕ) → IsOnce (x ∷ order) → x ≡ s → StandsIn (without slot order) s → ⊥
once-after slot x s order once same stands =
    let before = stood-before slot s order stands in
    let at : zero ≡ suc before.0 = once zero (suc before.0) s (ap Some same) before.1 in
    absurd (omega (arith, at))

once-ahead : (slot x : ℕ) (order : List ℕ) (t : Bool) → IsOnce (x ∷ order) → IsOnce (without slot order) →
    IsOnce (cond t (x ∷ without slot order) (without slot order))
once-ahead slot x order false once rest = rest
once-ahead slot x order true once rest = by
  where
    by : IsOnce (x ∷ without slot order)
    by zero zero s e f = refl
    by zero (suc other) s e f = absurd (once-after slot x s order once (same_Some x s e) (other, f))
    by (suc one) zero s e f = absurd (once-after slot x s order once (same_Some x s f) (one, e))
    by (suc one) (suc other) s e f = ap suc (rest one other s e f)

later-once : (x : ℕ) (order : List ℕ) → IsOnce (x ∷ order) → IsOnce order
later-once x order once one other s e f =
    let same : suc one ≡ suc other = once (suc one) (suc other) s e f in
    omega (arith, same)

once-less : (slot : ℕ) (order : List ℕ) → IsOnce order → IsOnce (without slot order)
once-less slot [] once = once
once-less slot (x ∷ order) once =
    once-ahead slot x order (not (nat_eq x slot)) once (once-less slot order (later-once x order once))

gone-ahead : (slot x : ℕ) (order : List ℕ) (t : Bool) → nat_eq x slot ≡ t →
    ((at : ℕ) → slice_get (without slot order) at ≡ Some slot → ⊥) → (at : ℕ) →
    slice_get (cond (not t) (x ∷ without slot order) (without slot order)) at ≡ Some slot → ⊥
gone-ahead slot x order true is rest at e = rest at e
gone-ahead slot x order false is rest zero e =
    true≢false (sym (eq-eqb x slot (same_Some x slot e)) ∙ is)
gone-ahead slot x order false is rest (suc at) e = rest at e

gone : (slot : ℕ) (order : List ℕ) (at : ℕ) → slice_get (without slot order) at ≡ Some slot → ⊥
gone slot [] at e = absurd (cc)
gone slot (x ∷ order) at e = gone-ahead slot x order (nat_eq x slot) refl (gone slot order) at e

order-shorter : (job : Job) (slots : List (Option Busy)) (it : Slots) (slot : ℕ) → AreSlotsOf job slots it →
    slot < length slots →
    IsOrderOf (set slots slot None) (without slot it.order)
order-shorter job slots it slot are within = record {
  all = λ s b there.
      elim (cases_eq s slot) [
        | inl eq ↦ absurd (none-some b (sym (busy-same slots slot None within)
            ∙ (ap (busy_in (set slots slot None)) (sym eq) ∙ there)))
        | inr other ↦
            let stands = are.order.all s b (sym (busy-other slots slot s None other) ∙ there) in
            others-stay slot s it.order stands.0 other stands.1
      ];
  only = λ at s stands.
      elim (cases_eq s slot) [
        | inl eq ↦ absurd (gone slot it.order at (stands ∙ ap Some eq))
        | inr other ↦
            let before = stood-before slot s it.order (at, stands) in
            subst IsSome (sym (busy-other slots slot s None other)) (are.order.only before.0 s before.1)
      ];
  once = once-less slot it.order are.order.once;
}

-- after it

no-claims : (job : Job) (b : Busy) → is_settled job b ≡ true → list_any is_some b.claims ≡ false
unfolding is_settled
no-claims job b settled =
    by (list_any is_some b.claims) refl
    (and_parts (not (list_any is_some b.claims))
    (not (list_any (is_enabled job (outcomes b.ran) b.store) (range_with_len 0 (length job.algorithms))))
    settled).0
  where
    by : (t : Bool) → list_any is_some b.claims ≡ t → not (list_any is_some b.claims) ≡ true →
        list_any is_some b.claims ≡ false
    by true e f = absurd (cc)
    by false e f = e

pub retire-tied : (job : Job) (slots : List (Option Busy)) (old : Slots) (slot : ℕ) (b : Busy) (seat : Seat)
    (later : List Seat)
    (board : Board) (order : List ℕ) →
    AreSlotsOf job slots old → busy_in slots slot ≡ Some b → is_settled job b ≡ true → slice_get old.seats
    slot ≡ Some seat →
    later ≡ set old.seats slot (record seat { place = None }) → board ≡ without_store old.board slot → order
    ≡ without slot old.order →
    AreSlotsOf job (set slots slot None)
    (record { bodies = old.bodies; seats = later; board = board; pools = old.pools; order = order })
retire-tied job slots old slot b seat later board order are busy settled at sits shows orders =
    let it = event-there job slots old slot b are busy in
    let was = are.seats slot (Some b) seat it.there at in
    let is : board ≡ board_of job (set slots slot None) =
    shows ∙ ap (λ (them : Board). without_store them slot) are.board
    ∙ ap (λ (them : List (Option (List (Option Product)))). record {
      slots = them;
      handles = handle_count job;
    })
    (sym (map-set store_of slots slot None)) in
    subst (λ (them : List ℕ). AreSlotsOf job (set slots slot None)
    (record { bodies = old.bodies; seats = later; board = board; pools = old.pools; order = them })) (sym
    orders)
    (subst (λ (them : List Seat). AreSlotsOf job (set slots slot None)
    (record {
      bodies = old.bodies;
      seats = them;
      board = board;
      pools = old.pools;
      order = without slot
          old.order;
    })) (sym sits)
    (slot-changed job slots old slot None (record seat { place = None }) board old.pools (without slot
    old.order) are it.within
    (refl, was.3) is (pools-after-retirement job slots old.pools slot b are.pools it.there (no-claims job b
    settled))
    (order-shorter job slots old slot are it.within)))
