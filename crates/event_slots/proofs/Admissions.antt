-- An event takes an empty slot: the store that it begins with, and what is tied then.
use Rattle.std.proofs.Common.{◌≡◌, ◌⊎◌, inl, inr, ℕ, zero, suc, ◌+◌, ◌<◌, ◌≤◌, true, false, true≢false, is_some, List, [], ◌∷◌, ◌++◌, length, map, replicate, set, slice_get, unwrap_or, Option, Some, None, IsSome, refl, sym, ap, ap₂, subst, ◌∙◌, add-one, arith}
use Rattle.std.proofs.lemmas.Bool.{cases_eq}
use Rattle.std.proofs.lemmas.List.{length-append, length-map, length-replicate, replicate-append-replicate}
use Rattle.std.proofs.lemmas.Option.{none-some, same_Some, slice_get-map, slice_get_within}
use Rattle.std.specs.List.{enumerate_from, flat_map, list_all}
use Rattle.std.specs.Option.{option_flatten, option_map}
use Rattle.event_flow.proofs.Following.{begun-follows, begun-of_job}
use Rattle.event_flow.specs.Steps.{begun_with}
use Rattle.event_laws.proofs.Stores.{length-store}
use Rattle.hive_model.specs.Algorithm.{Algorithm}
use Rattle.hive_model.specs.EventRecord.{EventRecord}
use Rattle.hive_model.specs.Fits.{AreCellsOf, Fits}
use Rattle.hive_model.specs.Handles.{handle_count, output_kinds}
use Rattle.hive_model.specs.Job.{Job}
use Rattle.hive_model.specs.Machine.{Busy, begun}
use Rattle.hive_model.specs.Results.{fitted, left, left_at, none_ran, store}
use Rattle.hive_model.specs.declared.algorithm.Raw.{Raw}
use Rattle.hive_model.specs.declared.product.Product.{Product}
use Rattle.loan_laws.proofs.Counting.{flat-none, get-set_same}
use Rattle.loan_laws.proofs.Opening.{pools-after-admission}
use Rattle.whiteboard.specs.Slots.{Slots as Board, products_in, store_in, with_store}
use Rattle.event_slots.specs.Places.{AreEmpty, laid}
use Rattle.event_slots.specs.Slots.{AreSlotsOf, IsOrderOf, IsSeatOf, IsSized, Seat, Slots, board_of, busy_in}
use Rattle.event_slots.proofs.Boards.{some-there, stored-twice}
use Rattle.event_slots.proofs.Ties.{board-changed, busy-other, busy-same, slot-changed, still-busy, store_of}

abbrev Products : Type 0
Products = List (Option Product)

-- cells that are laid into an empty store

laid-behind : (h : ℕ) (cells places : Products) (o : Option Product) →
    laid (h + 1) cells (o ∷ places) ≡ o ∷ laid h cells places
laid-behind h [] places o = refl
laid-behind h (None ∷ cells) places o = laid-behind (h + 1) cells places o
laid-behind h (Some p ∷ cells) places o =
    ap (λ k. laid (h + 1 + 1) cells (set (o ∷ places) k (Some p))) (add-one h)
    ∙ laid-behind (h + 1) cells (set places h (Some p)) o

empty-fitted : (n : ℕ) → replicate n None ≡ fitted n []
empty-fitted zero = refl
empty-fitted (suc n) = ap (λ (places : Products). None ∷ places) (empty-fitted n)

laid-fitted : (n : ℕ) (cells : Products) → length cells ≤ n → laid 0 cells (replicate n None) ≡ fitted n cells
laid-fitted n [] few = empty-fitted n
laid-fitted zero (cell ∷ cells) few = absurd (omega arith)
laid-fitted (suc n) (None ∷ cells) few =
    laid-behind 0 cells (replicate n None) None
    ∙ ap (λ (places : Products). None ∷ places) (laid-fitted n cells (omega arith))
laid-fitted (suc n) (Some p ∷ cells) few =
    laid-behind 0 cells (replicate n None) (Some p)
    ∙ ap (λ (places : Products). Some p ∷ places) (laid-fitted n cells (omega arith))

fitted-more : (m k total : ℕ) (cells : Products) → m + k ≡ total → length cells ≤ m →
    fitted total cells ≡ fitted m cells ++ replicate k None
fitted-more zero k total [] e few = sym (empty-fitted total) ∙ ap (λ (n : ℕ). replicate n None) (let same :
    total ≡ k = omega arith in same)
fitted-more zero k total (cell ∷ cells) e few = absurd (omega arith)
fitted-more (suc m) k zero cells e few = absurd (omega arith)
fitted-more (suc m) k (suc total) [] e few = ap (λ (places : Products). None ∷ places) (fitted-more m k total
    [] (omega arith) (omega arith))
fitted-more (suc m) k (suc total) (cell ∷ cells) e few =
    ap (λ (places : Products). cell ∷ places) (fitted-more m k total cells (omega arith) (omega arith))

nothing-left : (n from : ℕ) (algorithms : List Algorithm) →
    flat_map (left_at (replicate n None)) (enumerate_from from algorithms) ≡ replicate (length (flat_map
    output_kinds algorithms)) None
nothing-left n from [] = refl
nothing-left n from (a ∷ algorithms) =
    ap₂ ◌++◌ (ap (left a) (flat-none n from) ∙ sym (empty-fitted (length a.outputs))) (nothing-left n (from +
    1) algorithms)
    ∙ replicate-append-replicate (length a.outputs) (length (flat_map output_kinds algorithms)) None
    ∙ ap (λ (k : ℕ). replicate k None)
    (ap (λ (k : ℕ). k + length (flat_map output_kinds algorithms)) (sym (length-map a.outputs _))
    ∙ sym (length-append (output_kinds a) (flat_map output_kinds algorithms)))

cells-length : (raws : List Raw) (cells : Products) → AreCellsOf raws cells → length cells ≡ length raws
cells-length [] [] are = refl
cells-length [] (cell ∷ cells) are = absurd are
cells-length (r ∷ raws) [] are = absurd are
cells-length (r ∷ raws) (None ∷ cells) are = ap suc (cells-length raws cells are)
cells-length (r ∷ raws) (Some p ∷ cells) are = ap suc (cells-length raws cells are.1)

raws-first : (job : Job) → length job.raws + length
    (flat_map output_kinds job.algorithms) ≡ handle_count job
raws-first job =
    ap (λ (n : ℕ). n + length (flat_map output_kinds job.algorithms)) (sym (length-map job.raws (λ (r : Raw).
    r.kind)))
    ∙ sym (length-append (map (λ (r : Raw). r.kind) job.raws) (flat_map output_kinds job.algorithms))

pub few-cells : (job : Job) (event : EventRecord) → Fits job event → length event.cells ≤ handle_count job
few-cells job event fits = omega (arith, cells-length job.raws event.cells fits, raws-first job)

first-store : (job : Job) (event : EventRecord) → Fits job event →
    laid 0 event.cells (replicate (handle_count job) None) ≡ store job event (none_ran job)
unfolding store
first-store job event fits =
    let size = cells-length job.raws event.cells fits in
    laid-fitted (handle_count job) event.cells (few-cells job event fits)
    ∙ fitted-more (length job.raws) (length (flat_map output_kinds job.algorithms)) (handle_count job)
    event.cells (raws-first job) (omega arith)
    ∙ ap (λ places. fitted (length job.raws) event.cells ++ places) (sym (nothing-left (length
    job.algorithms) 0 job.algorithms))

begun-store : (job : Job) (place : ℕ) (event : EventRecord) →
    (begun job place event).store ≡ store job event (none_ran job)
unfolding begun
begun-store job place event = refl

-- the slot was empty

flat-empty : (o : Option (Option Busy)) → option_map store_of o ≡ Some None → o ≡ Some None
flat-empty None e = absurd (cc)
flat-empty (Some None) e = refl
flat-empty (Some (Some b)) e = absurd (cc)

pub slot-empty : (job : Job) (slots : List (Option Busy)) (it : Slots) (slot : ℕ) → AreSlotsOf job slots it →
    slice_get it.board.slots slot ≡ Some None → slice_get slots slot ≡ Some None
slot-empty job slots it slot are empty =
    flat-empty (slice_get slots slot)
    (sym (slice_get-map store_of slots slot) ∙ (ap (λ (b : Board). slice_get b.slots slot) (sym are.board)
    ∙ empty))

all-taken : (slots : List (Option Busy)) → list_all is_some (map store_of slots) ≡ list_all is_some slots
all-taken [] = refl
all-taken (None ∷ slots) = refl
all-taken (Some b ∷ slots) = all-taken slots

pub not-full : (job : Job) (slots : List (Option Busy)) (it : Slots) → AreSlotsOf job slots it →
    list_all is_some slots ≡ false →
    list_all is_some it.board.slots ≡ true → ⊥
not-full job slots it are some all =
    true≢false (sym all ∙ ap (λ (b : Board). list_all is_some b.slots) are.board ∙ all-taken slots ∙ some)

-- the empty store is there

replicate-at : (n i : ℕ) → i < n → ◌≡◌ {A = Option (Option Product)} (slice_get (replicate n None) i) (Some
    None)
replicate-at zero i h = absurd (omega arith)
replicate-at (suc n) zero h = refl
replicate-at (suc n) (suc i) h = replicate-at n i (omega arith)

pub store-placed : (board later : Board) (slot : ℕ) (room : Products) →
    slice_get board.slots slot ≡ Some None →
    later ≡ with_store board slot room → store_in later slot ≡ Some room
store-placed board later slot room empty is =
    ap (λ (b : Board). store_in b slot) is
    ∙ ap option_flatten (get-set_same board.slots slot (Some room) (slice_get_within board.slots slot None
    empty))

pub places-free : (board : Board) (slot n count : ℕ) (room : Products) → store_in board slot ≡ Some room →
    room ≡ replicate n None →
    count ≤ n → AreEmpty (products_in board slot) 0 count
places-free board slot n count room there empty few i below =
    ap (λ o. slice_get (unwrap_or o []) (0 + i)) there ∙ ap (λ them. slice_get them (0 + i)) empty
    ∙ ap (slice_get (replicate n None)) (let same : 0 + i ≡ i = omega arith in same)
    ∙ replicate-at n i (omega arith)

-- the order

front-same : {X : Type 0} (xs ys : List X) (i : ℕ) (x : X) → slice_get xs i ≡ Some x →
    slice_get (xs ++ ys) i ≡ Some x
front-same [] ys i x e = absurd (cc)
front-same (y ∷ xs) ys zero x e = e
front-same (y ∷ xs) ys (suc i) x e = front-same xs ys i x e

last-is : {X : Type 0} (xs : List X) (x : X) → slice_get (xs ++ x ∷ []) (length xs) ≡ Some x
last-is [] x = refl
last-is (y ∷ xs) x = last-is xs x

in-front : {X : Type 0} (xs : List X) (x y : X) (i : ℕ) → slice_get (xs ++ x ∷ []) i ≡ Some y →
    (slice_get xs i ≡ Some y) ⊎ ((x ≡ y) × (i ≡ length xs))
in-front [] x y zero e = inr (same_Some x y e, refl)
in-front [] x y (suc i) e = inl e
in-front (z ∷ xs) x y zero e = inl e
in-front (z ∷ xs) x y (suc i) e = later (in-front xs x y i e)
  where
    later : (slice_get xs i ≡ Some y) ⊎ ((x ≡ y) × (i ≡ length xs)) →
        (slice_get xs i ≡ Some y) ⊎ ((x ≡ y) × (suc i ≡ suc (length xs)))
    later (inl old) = inl old
    later (inr last) = inr (last.0, ap suc last.1)

-- the slot of a new event had no place
not-yet : (job : Job) (slots : List (Option Busy)) (it : Slots) (slot at s : ℕ) → AreSlotsOf job slots it →
    slice_get slots slot ≡ Some None → slice_get it.order at ≡ Some s → slot ≡ s → ⊥
not-yet job slots it slot at s are empty stands same =
    let some = some-there (busy_in slots s) (are.order.only at s stands) in
    none-some some.0 (sym (ap option_flatten empty) ∙ ap (busy_in slots) same ∙ some.1)

order-longer : (job : Job) (slots : List (Option Busy)) (it : Slots) (slot : ℕ) (new : Busy) →
    AreSlotsOf job slots it →
    slice_get slots slot ≡ Some None → IsOrderOf (set slots slot (Some new)) (it.order ++ slot ∷ [])
order-longer job slots it slot new are empty = record {
  all = λ s b there.
      elim (cases_eq s slot) [
        | inl eq ↦ (length it.order, last-is it.order slot ∙ ap Some (sym eq))
        | inr other ↦
            let stands = are.order.all s b (sym (busy-other slots slot s (Some new) other) ∙ there) in
            (stands.0, front-same it.order (slot ∷ []) stands.0 s stands.1)
      ];
  only = λ at s stands.
      elim (in-front it.order slot s at stands) [
        | inl old ↦ still-busy slots slot s new within (are.order.only at s old)
        | inr last ↦ subst IsSome (sym (ap (busy_in (set slots slot (Some new))) (sym last.0)
            ∙ busy-same slots slot (Some new) within)) refl
      ];
  once = λ one other s here there.
      elim (in-front it.order slot s one here) [
        | inl old ↦
            elim (in-front it.order slot s other there) [
              | inl again ↦ are.order.once one other s old again
              | inr last ↦ absurd (not-yet job slots it slot one s are empty old last.0)
            ]
        | inr last ↦
            elim (in-front it.order slot s other there) [
              | inl old ↦ absurd (not-yet job slots it slot other s are empty old last.0)
              | inr again ↦ last.1 ∙ sym again.1
            ]
      ];
}
  where
    within : slot < length slots
    within = slice_get_within slots slot None empty

-- the seat

begun-place : (job : Job) (place : ℕ) (event : EventRecord) → (begun job place event).place ≡ place
unfolding begun
begun-place job place event = refl

begun-sizes : (job : Job) (place : ℕ) (event : EventRecord) → IsSized job (begun job place event)
unfolding begun
begun-sizes job place event = record {
  ran = length-replicate (length job.algorithms) _;
  store = length-store job event (none_ran job);
  claims = length-replicate (length job.algorithms) _;
}

seat-begun : (job : Job) (seat : Seat) (place : ℕ) (event : EventRecord) → Fits job event →
    IsSeatOf job None seat →
    IsSeatOf job (Some (begun job place event)) (record {
      flow = begun_with seat.flow (map is_some
          event.cells);
      place = Some place;
    })
seat-begun job seat place event fits is = (
  ap Some (sym (begun-place job place event)),
  sym (begun-follows job seat.flow place event is.1 fits),
  begun-sizes job place event,
  begun-of_job job seat.flow (map is_some event.cells) is.1,
)

pub admit-tied : (job : Job) (slots : List (Option Busy)) (old : Slots) (slot place : ℕ)
    (event : EventRecord) (seat : Seat)
    (later : List Seat) (taken board : Board) (room : Products) (order : List ℕ) →
    AreSlotsOf job slots old → slice_get slots slot ≡ Some None → Fits job event → slice_get old.seats slot ≡
    Some seat →
    later ≡ set old.seats slot (record {
      flow = begun_with seat.flow (map is_some event.cells);
      place = Some
          place;
    }) →
    slice_get old.board.slots slot ≡ Some None → taken ≡ with_store old.board slot room → room ≡ replicate
    (handle_count job) None →
    board ≡ with_store taken slot (laid 0 event.cells (products_in taken slot)) → order ≡ old.order ++ slot ∷
    [] →
    AreSlotsOf job (set slots slot (Some (begun job place event)))
    (record { bodies = old.bodies; seats = later; board = board; pools = old.pools; order = order })
admit-tied job slots old slot place event seat later taken board room order are empty fits at sits free
    placed none shows orders =
    let new = begun job place event in
    let within = slice_get_within slots slot None empty in
    let store : laid 0 event.cells (products_in taken slot) ≡ new.store =
    ap (λ o. laid 0 event.cells (unwrap_or o [])) (store-placed old.board taken slot room free placed)
    ∙ ap (laid 0 event.cells) none ∙ first-store job event fits ∙ sym (begun-store job place event) in
    let is : board ≡ board_of job (set slots slot (Some new)) =
    shows ∙ ap (λ (b : Board). with_store b slot (laid 0 event.cells (products_in taken slot))) placed
    ∙ stored-twice old.board slot room (laid 0 event.cells (products_in taken slot))
    ∙ ap (with_store old.board slot) store ∙ ap (λ (b : Board). with_store b slot new.store) are.board
    ∙ board-changed job slots slot new in
    subst (λ (them : List ℕ). AreSlotsOf job (set slots slot (Some new))
    (record { bodies = old.bodies; seats = later; board = board; pools = old.pools; order = them })) (sym
    orders)
    (subst (λ (them : List Seat). AreSlotsOf job (set slots slot (Some new))
    (record {
      bodies = old.bodies;
      seats = them;
      board = board;
      pools = old.pools;
      order = old.order ++ slot
          ∷ [];
    })) (sym sits)
    (slot-changed job slots old slot (Some new) _ board old.pools (old.order ++ slot ∷ []) are within
    (seat-begun job seat place event fits (are.seats slot None seat empty at)) is
    (pools-after-admission job slots old.pools slot place event are.pools empty) (order-longer job slots old
    slot new are empty)))
