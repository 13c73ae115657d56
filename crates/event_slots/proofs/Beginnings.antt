-- Empty slots, as they begin.
use Rattle.std.proofs.Common.{◌≡◌, ℕ, zero, suc, ◌≤◌, List, [], ◌∷◌, length, map, replicate, slice_get, Option, Some, None, refl, sym, ap, subst, ◌∙◌, arith}
use Rattle.std.proofs.lemmas.List.{length-replicate}
use Rattle.std.proofs.lemmas.Option.{none-some, same_Some}
use Rattle.std.specs.List.{AllByRecursion}
use Rattle.clone_pools.specs.Loans.{Pools, opening}
use Rattle.hive_model.specs.Algorithm.{Algorithm}
use Rattle.hive_model.specs.Handles.{handle_count}
use Rattle.hive_model.specs.Job.{Job}
use Rattle.hive_model.specs.Machine.{Busy}
use Rattle.hive_model.specs.declared.limits.TheConstants.{MOST_SLOTS}
use Rattle.hive_model.specs.declared.product.Product.{Product}
use Rattle.loan_laws.proofs.Counting.{flat-none}
use Rattle.loan_laws.proofs.Opening.{opening-pools}
use Rattle.loan_laws.specs.Loans.{ArePoolsOf}
use Rattle.whiteboard.specs.Slots.{Slots as Board}
use Rattle.event_slots.specs.Seats.{IsVacantFor}
use Rattle.event_slots.specs.Slots.{AreSlotsOf, IsOrderOf, IsSeatOf, Seat, board_of, busy_in}
use Rattle.event_slots.proofs.Ties.{store_of}

none-at : (n i : ℕ) (o : Option Busy) → slice_get (replicate n None) i ≡ Some o → None ≡ o
none-at zero i o e = absurd (cc)
none-at (suc n) zero o e = same_Some None o e
none-at (suc n) (suc i) o e = none-at n i o e

all-get : {X : Type 0} (P : X → Type 0) (xs : List X) (i : ℕ) (x : X) → AllByRecursion P xs →
    slice_get xs i ≡ Some x → P x
all-get P [] i x all e = absurd (cc)
all-get P (y ∷ ys) zero x all e = subst P (same_Some y x e) all.0
all-get P (y ∷ ys) (suc i) x all e = all-get P ys i x all.1 e

none-stored : (n : ℕ) → replicate n None ≡ map store_of (replicate n None)
none-stored zero = refl
none-stored (suc n) = ap (λ (them : List (Option (List (Option Product)))). None ∷ them) (none-stored n)

nobody-in : (n i : ℕ) (b : Busy) → busy_in (replicate n None) i ≡ Some b → ⊥
nobody-in n i b e = none-some b (sym (flat-none n i) ∙ e)

nobody-first : (n : ℕ) → IsOrderOf (replicate n None) []
nobody-first n = record {
  all = λ slot b there. absurd (nobody-in n slot b there);
  only = λ at slot stands. absurd (none-some slot stands);
  once = λ one other slot stands again. absurd (none-some slot stands);
}

pub slots-founded : (job : Job) (n handles : ℕ) (bodies : List Algorithm) (seats : List Seat)
    (board : Board) (pools : Pools)
    (order : List ℕ) → n ≤ MOST_SLOTS → bodies ≡ job.algorithms → length seats ≡ n → AllByRecursion
    (IsVacantFor job) seats →
    board.slots ≡ replicate n None → board.handles ≡ handles → handles ≡ handle_count job → pools ≡ opening
    job → order ≡ [] →
    AreSlotsOf job (replicate n None) (record {
      bodies = bodies;
      seats = seats;
      board = board;
      pools = pools;
      order = order;
    })
slots-founded job n handles bodies seats board pools order few shared many vacant none wide all opens empty =
    record {
      bodies = shared;
      as_many = many ∙ sym (length-replicate n None);
      few = omega (arith, length-replicate {A = Option Busy} n None);
      seats = λ slot busy seat there at.
          subst (λ o. IsSeatOf job o seat) (none-at n slot busy there)
          (all-get (IsVacantFor job) seats slot seat vacant at);
      board = same board.slots board.handles (none ∙ none-stored n) (wide ∙ all);
      pools = subst (ArePoolsOf job (replicate n None)) (sym opens) (opening-pools job n);
      order = subst (IsOrderOf (replicate n None)) (sym empty) (nobody-first n);
    }
  where
    same : (xs : List (Option (List (Option Product)))) (h : ℕ) → xs ≡ map store_of (replicate n None) →
        h ≡ handle_count job →
        ◌≡◌ {A = Board} (record { slots = xs; handles = h }) (board_of job (replicate n None))
    same xs h e f = cc
