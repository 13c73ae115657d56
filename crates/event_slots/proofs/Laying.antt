-- Products that are put into places of a store, from the last to the first, as `laid` and `written` put
-- them from the first on.
use Rattle.std.proofs.Common.{◌≡◌, ℕ, suc, ◌+◌, ◌≤◌, List, [], ◌∷◌, ◌++◌, length, set, Option, Some, None, refl, sym, ap, ◌∙◌, add-zero, arith}
use Rattle.std.proofs.lemmas.List.{set_comm}
use Rattle.loan_laws.proofs.Counting.{get-set_other}
use Rattle.hive_model.specs.Step.{written}
use Rattle.hive_model.specs.declared.product.Product.{Product}
use Rattle.event_slots.specs.Places.{AreEmpty, laid}

abbrev Products : Type 0
Products = List (Option Product)

-- a place further on is another one
laid-commutes : (h : ℕ) (cells places : Products) (k : ℕ) (o : Option Product) → h + length cells ≤ k →
    laid h cells (set places k o) ≡ set (laid h cells places) k o
laid-commutes h [] places k o far = refl
laid-commutes h (None ∷ cells) places k o far = laid-commutes (h + 1) cells places k o (omega arith)
laid-commutes h (Some p ∷ cells) places k o far =
    ap (laid (h + 1) cells) (set_comm places k h o (Some p) (omega arith))
    ∙ laid-commutes (h + 1) cells (set places h (Some p)) k o (omega arith)

pub laid-last_empty : (h : ℕ) (cells places : Products) →
    laid h (cells ++ None ∷ []) places ≡ laid h cells places
laid-last_empty h [] places = refl
laid-last_empty h (None ∷ cells) places = laid-last_empty (h + 1) cells places
laid-last_empty h (Some p ∷ cells) places = laid-last_empty (h + 1) cells (set places h (Some p))

pub laid-last : (h : ℕ) (cells places : Products) (p : Product) →
    laid h (cells ++ Some p ∷ []) places ≡ laid h cells (set places (h + length cells) (Some p))
laid-last h [] places p = ap (λ k. set places k (Some p)) (sym (add-zero h))
laid-last h (None ∷ cells) places p =
    laid-last (h + 1) cells places p ∙ ap (λ k. laid (h + 1) cells (set places k (Some p))) (omega arith)
laid-last h (Some q ∷ cells) places p =
    laid-last (h + 1) cells (set places h (Some q)) p
    ∙ ap (λ k. laid (h + 1) cells (set (set places h (Some q)) k (Some p))) (omega arith)
    ∙ ap (laid (h + 1) cells) (set_comm places h (h + suc (length cells)) (Some q) (Some p) (omega arith))

pub written-last : (h : ℕ) (ps : List Product) (places : Products) (p : Product) →
    written h (ps ++ p ∷ []) places ≡ written h ps (set places (h + length ps) (Some p))
written-last h [] places p = ap (λ k. set places k (Some p)) (sym (add-zero h))
written-last h (q ∷ ps) places p =
    written-last (h + 1) ps (set places h (Some q)) p
    ∙ ap (λ k. written (h + 1) ps (set (set places h (Some q)) k (Some p))) (omega arith)
    ∙ ap (written (h + 1) ps) (set_comm places h (h + suc (length ps)) (Some q) (Some p) (omega arith))

-- places before one that was filled are as empty as before
pub still-empty : (places : Products) (first count k : ℕ) (o : Option Product) → first + count ≤ k →
    AreEmpty places first count →
    AreEmpty (set places k o) first count
still-empty places first count k o far empty i h = get-set_other places k (first + i) o (omega arith)
    ∙ empty i h

pub fewer-empty : (places : Products) (first count more : ℕ) → count ≤ more → AreEmpty places first more →
    AreEmpty places first count
fewer-empty places first count more less empty i h = empty i (omega arith)
