-- Places that are given one after another, and that no number leads back to itself where each has one.
use Rattle.std.proofs.Common.{◌≡◌, ◌≢◌, ℕ, zero, suc, ◌+◌, ◌<◌, ◌≤◌, nat_lt, Bool, true, false, List, [], ◌∷◌, ◌&&◌, length, get_or, set, replicate, All, refl, ap, sym, ◌∙◌, ⊎_elim, arith, Global}
use Rattle.std.proofs.lemmas.Bool.{cases_eq, cases_lt}
use Rattle.std.proofs.lemmas.Bool.Decides.{nat_tests}
use Rattle.std.proofs.lemmas.List.{length-set, length-replicate, get_or-replicate, get_or-set_same, get_or-set_other, get_or_past}
use Rattle.std.proofs.lemmas.List.Elements.{All-weaker}
use Rattle.std.specs.List.{list_all}
use Rattle.std.specs.declared.vec.Vec.{Vec}
use Rattle.text_model.specs.Walks.{leads_within}
use Rattle.graph_parts.proofs.Leading.{leads-never}
use Rattle.graph_parts.proofs.Searching.{links-at}
use Rattle.graph_parts.specs.Links.{links}
use Rattle.graph_parts.specs.Ranks.{AreRanked, is_placed, rank}

no-rank : (size n : ℕ) → rank (replicate size 0) n ≡ 0
no-rank zero n = refl
no-rank (suc size) zero = refl
no-rank (suc size) (suc n) = no-rank size n

-- before the first turn
pub none-ranked : (next : List (Vec ℕ Global)) (ranks : List ℕ) → ranks ≡ replicate (length next) 0 → AreRanked next ranks 0
none-ranked next ranks e = rw e (record {
  size = length-replicate (length next) 0;
  so_far = λ n. rw (no-rank (length next) n) (omega arith);
  behind = λ n h. absurd (let dark = no-rank (length next) n in omega (arith, h, dark));
})

-- a turn that gives no place
pub ranked-on : (next : List (Vec ℕ Global)) (ranks : List ℕ) (turn : ℕ) → AreRanked next ranks turn → AreRanked next ranks (turn + 1)
ranked-on next ranks turn h = record {
  size = h.size;
  so_far = λ n. let a = h.so_far n in omega (arith, a);
  behind = h.behind;
}

placed-more : (ranks targets : List ℕ) (t : ℕ) (b : Bool) → nat_lt 0 (rank ranks t) ≡ b → (b && list_all (is_placed ranks) targets) ≡ true →
    (list_all (is_placed ranks) targets ≡ true → All (λ u. 0 < rank ranks u) targets) → All (λ u. 0 < rank ranks u) (t ∷ targets)
placed-more ranks targets t false is e later = absurd (let never = e in cc)
placed-more ranks targets t true is e later = at
  where
    here : 0 < rank ranks t
    here = grind (arith, nat_tests)

    at : (k d : ℕ) → k < length (t ∷ targets) → 0 < rank ranks (get_or (t ∷ targets) k d)
    at zero d h = here
    at (suc k) d h = later e k d (omega arith)

placed-all : (ranks : List ℕ) (targets : List ℕ) → list_all (is_placed ranks) targets ≡ true → All (λ t. 0 < rank ranks t) targets
placed-all ranks [] e = λ k d h. absurd (omega arith)
placed-all ranks (t ∷ targets) e = placed-more ranks targets t (nat_lt 0 (rank ranks t)) refl e (placed-all ranks targets)

-- a number gets the place of this turn, where all that it leads to have places and it has none
pub ranked-more : (next : List (Vec ℕ Global)) (ranks : List ℕ) (turn n : ℕ) → AreRanked next ranks turn → n < length next →
    is_placed ranks n ≡ false → list_all (is_placed ranks) (links next n) ≡ true → AreRanked next (set ranks n (turn + 1)) (turn + 1)
ranked-more next ranks turn n h inside none all = record {
  size = length-set ranks n (turn + 1) ∙ h.size;
  so_far = λ m. ⊎_elim (λ (same : m ≡ n). rw (same, own) (omega arith)) (λ other. rw (kept m other) (let a = h.so_far m in omega (arith, a))) (cases_eq m n);
  behind = λ m positive. ⊎_elim (λ (same : m ≡ n). rw same here) (λ other. there m other (rw (kept m other) at positive)) (cases_eq m n);
}
  where
    unplaced : rank ranks n ≡ 0
    unplaced = grind (arith, nat_tests)

    within : n < length ranks
    within = rw h.size inside

    own : rank (set ranks n (turn + 1)) n ≡ turn + 1
    own = get_or-set_same ranks n (turn + 1) 0 within

    kept : (m : ℕ) → m ≢ n → rank (set ranks n (turn + 1)) m ≡ rank ranks m
    kept m other = get_or-set_other ranks n m (turn + 1) 0 other

    -- a target with a place isn't the number, which has none
    apart : (t : ℕ) → 0 < rank ranks t → t ≢ n
    apart t positive same = let dark = ap (rank ranks) same in omega (arith, positive, dark, unplaced)

    here : All (λ t. (0 < rank (set ranks n (turn + 1)) t) × (rank (set ranks n (turn + 1)) t < rank (set ranks n (turn + 1)) n)) (links next n)
    here = All-weaker (λ t. 0 < rank ranks t) (λ t. (0 < rank (set ranks n (turn + 1)) t) × (rank (set ranks n (turn + 1)) t < rank (set ranks n (turn + 1)) n))
        (λ t positive. rw (own, kept t (apart t positive)) (positive, let a = h.so_far t in omega (arith, a)))
        (links next n) (placed-all ranks (links next n) all)

    there : (m : ℕ) → m ≢ n → 0 < rank ranks m →
        All (λ t. (0 < rank (set ranks n (turn + 1)) t) × (rank (set ranks n (turn + 1)) t < rank (set ranks n (turn + 1)) m)) (links next m)
    there m other positive =
        All-weaker (λ t. (0 < rank ranks t) × (rank ranks t < rank ranks m))
        (λ t. (0 < rank (set ranks n (turn + 1)) t) × (rank (set ranks n (turn + 1)) t < rank (set ranks n (turn + 1)) m))
        (λ t it. rw (kept m other, kept t (apart t it.0)) it) (links next m) (h.behind m positive)

rank-more : (r : ℕ) (ranks : List ℕ) (n : ℕ) (b : Bool) → nat_lt 0 r ≡ b → (b && list_all (nat_lt 0) ranks) ≡ true → n < length (r ∷ ranks) →
    ((m : ℕ) → list_all (nat_lt 0) ranks ≡ true → m < length ranks → 0 < rank ranks m) → 0 < rank (r ∷ ranks) n
rank-more r ranks n false is e inside later = absurd (let never = e in cc)
rank-more r ranks zero true is e inside later = grind (arith, nat_tests)
rank-more r ranks (suc n) true is e inside later = later n e (omega arith)

rank-of : (ranks : List ℕ) (n : ℕ) → list_all (nat_lt 0) ranks ≡ true → n < length ranks → 0 < rank ranks n
rank-of [] n e h = absurd (omega arith)
rank-of (r ∷ ranks) n e h = rank-more r ranks n (nat_lt 0 r) refl e h (λ m. rank-of ranks m)

-- a number with a place leads to places before it alone
pub ranked-never : (next : List (Vec ℕ Global)) (ranks : List ℕ) (turn : ℕ) → AreRanked next ranks turn → list_all (nat_lt 0) ranks ≡ true →
    (steps n : ℕ) → n < length next → leads_within (links next) steps n n ≡ false
ranked-never next ranks turn h all steps n inside =
    leads-never (links next) n (λ m. (0 < rank ranks m) × (rank ranks m ≤ rank ranks n)) closed steps n
    (rank-of ranks n all (rw h.size inside), omega arith)
  where
    closed : (m : ℕ) → (0 < rank ranks m) × (rank ranks m ≤ rank ranks n) →
        All (λ t. ((0 < rank ranks t) × (rank ranks t ≤ rank ranks n)) × (t ≢ n)) (links next m)
    closed m (positive, few) =
        All-weaker (λ t. (0 < rank ranks t) × (rank ranks t < rank ranks m)) (λ t. ((0 < rank ranks t) × (rank ranks t ≤ rank ranks n)) × (t ≢ n))
        (λ t it. ((it.0, let less = it.1 in omega (arith, less, few)), λ same. let less = it.1 in let e = ap (rank ranks) same in omega (arith, less, few, e)))
        (links next m) (h.behind m positive)

-- the same, where what the number leads to was looked up
pub ranked-at : (next : List (Vec ℕ Global)) (ranks : List ℕ) (turn n : ℕ) (v : Vec ℕ Global) → AreRanked next ranks turn →
    n < length next → v ≡ get_or next n v → is_placed ranks n ≡ false → list_all (is_placed ranks) v.items ≡ true →
    AreRanked next (set ranks n (turn + 1)) (turn + 1)
ranked-at next ranks turn n v h inside is none all = ranked-more next ranks turn n h inside none (rw (links-at next n v inside is) all)
