-- Flags of handles, and the products that they are flags of.
use Rattle.std.proofs.Common.{◌≡◌, ◌&&◌, ℕ, zero, suc, ◌+◌, ◌≤◌, Bool, true, false, is_some, List, [], ◌∷◌, ◌++◌, length, map, replicate, get_or, set, Option, Some, None, refl, sym, ap, ap₂, ◌∙◌, length-set, length-append, arith}
use Rattle.std.specs.List.{list_all, enumerate_from, flat_map}
use Rattle.std.proofs.lemmas.List.{map-set, length-map, map-append, replicate-append-replicate}
use Rattle.event_laws.proofs.Within.{ran_at-none}
use Rattle.hive_model.specs.Algorithm.{Algorithm}
use Rattle.hive_model.specs.Enabled.{product_in}
use Rattle.hive_model.specs.Handles.{output_kinds}
use Rattle.hive_model.specs.Results.{fitted, kept, left_at, ran_at}
use Rattle.hive_model.specs.Step.{written}
use Rattle.hive_model.specs.declared.product.Product.{Product}
use Rattle.event_flow.specs.Steps.{filled, flagged}

pub length-filled : (n : ℕ) (flags : List Bool) → length (filled n flags) ≡ n
length-filled zero flags = refl
length-filled (suc n) [] = ap suc (length-filled n [])
length-filled (suc n) (flag ∷ flags) = ap suc (length-filled n flags)

pub length-flagged : (first count : ℕ) (flags : List Bool) → length (flagged first count flags) ≡ length flags
length-flagged first zero flags = refl
length-flagged first (suc count) flags = length-flagged (first + 1) count (set flags first true) ∙ length-set flags first true

-- the flags of places

pub flags-at : (places : List (Option Product)) (h : ℕ) → get_or (map is_some places) h false ≡ is_some (product_in places h)
flags-at [] h = refl
flags-at (None ∷ places) zero = refl
flags-at (Some p ∷ places) zero = refl
flags-at (place ∷ places) (suc h) = flags-at places h

pub flags-fitted : (n : ℕ) (cells : List (Option Product)) → map is_some (fitted n cells) ≡ filled n (map is_some cells)
flags-fitted zero cells = refl
flags-fitted (suc n) [] = ap (λ (flags : List Bool). false ∷ flags) (flags-fitted n [])
flags-fitted (suc n) (cell ∷ cells) = ap (λ (flags : List Bool). is_some cell ∷ flags) (flags-fitted n cells)

pub flags-written : (first : ℕ) (ps : List Product) (places : List (Option Product)) →
    map is_some (written first ps places) ≡ flagged first (length ps) (map is_some places)
flags-written first [] places = refl
flags-written first (p ∷ ps) places =
    flags-written (first + 1) ps (set places first (Some p))
    ∙ ap (flagged (first + 1) (length ps)) (map-set is_some places first (Some p))

-- a test that says the same of each element says the same of all

pub all-same : (p q : ℕ → Bool) → ((n : ℕ) → p n ≡ q n) → (xs : List ℕ) → list_all p xs ≡ list_all q xs
all-same p q same [] = refl
all-same p q same (x ∷ xs) = ap₂ (λ (a b : Bool). a && b) (same x) (all-same p q same xs)

-- what no algorithm has left

empty-flags : (n : ℕ) → filled n [] ≡ replicate n false
empty-flags zero = refl
empty-flags (suc n) = ap (λ (flags : List Bool). false ∷ flags) (empty-flags n)

pub filled-more : (n k total : ℕ) (flags : List Bool) → n + k ≡ total → length flags ≤ n →
    filled total flags ≡ filled n flags ++ replicate k false
filled-more zero k total [] e le =
    let same : total ≡ k = omega arith in empty-flags total ∙ ap (λ (j : ℕ). replicate j false) same
filled-more zero k total (flag ∷ flags) e le = absurd (omega arith)
filled-more (suc n) k zero flags e le = absurd (omega arith)
filled-more (suc n) k (suc total) [] e le =
    ap (λ (flags : List Bool). false ∷ flags) (filled-more n k total [] (omega arith) (omega arith))
filled-more (suc n) k (suc total) (flag ∷ flags) e le =
    ap (λ (them : List Bool). flag ∷ them) (filled-more n k total flags (omega arith) (omega arith))

none-left : (n from : ℕ) (a : Algorithm) → map is_some (left_at (replicate n None) (from, a)) ≡ replicate (length a.outputs) false
none-left n from a =
    flags-fitted (length a.outputs) (map Some (kept (ran_at (replicate n None) from)))
    ∙ ap (λ it. filled (length a.outputs) (map is_some (map Some (kept it)))) (ran_at-none n from)
    ∙ empty-flags (length a.outputs)

pub nothing-left : (n from : ℕ) (algorithms : List Algorithm) →
    map is_some (flat_map (left_at (replicate n None)) (enumerate_from from algorithms))
    ≡ replicate (length (flat_map output_kinds algorithms)) false
nothing-left n from [] = refl
nothing-left n from (a ∷ algorithms) =
    map-append is_some (left_at (replicate n None) (from, a)) (flat_map (left_at (replicate n None)) (enumerate_from (from + 1) algorithms))
    ∙ ap₂ ◌++◌ (none-left n from a) (nothing-left n (from + 1) algorithms)
    ∙ replicate-append-replicate (length a.outputs) (length (flat_map output_kinds algorithms)) false
    ∙ ap (λ (k : ℕ). replicate k false)
    (ap (λ (k : ℕ). k + length (flat_map output_kinds algorithms)) (sym (length-map a.outputs _))
    ∙ sym (length-append (output_kinds a) (flat_map output_kinds algorithms)))
