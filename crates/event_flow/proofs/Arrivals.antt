-- The table of states, as handles arrive one after another.
use Rattle.std.proofs.Common.{◌≡◌, ℕ, zero, suc, ◌+◌, ◌<◌, ◌≤◌, Bool, true, false, is_some, List, [], ◌∷◌, length, map, take, replicate, get_or, set, slice_get, Option, Some, None, refl, sym, ap, ◌∙◌, add-one, get_or-set_other, arith}
use Rattle.std.proofs.lemmas.Option.{get_or_from_slice_get, slice_get_within}
use Rattle.algo_states.specs.States.{States, holds, with_arrived}
use Rattle.hive_model.specs.declared.product.Product.{Product}
use Rattle.event_flow.specs.Steps.{filled, flagged}
use Rattle.event_flow.proofs.Marking.{length-filled, length-flagged}

-- one after another, from a handle on

flagged-suc : (first i : ℕ) (flags : List Bool) → flagged first (suc i) flags ≡ set (flagged first i flags) (first + i) true
flagged-suc first zero flags = let here : first ≡ first + 0 = omega arith in ap (λ (h : ℕ). set flags h true) here
flagged-suc first (suc i) flags =
    let next : first + 1 + i ≡ first + suc i = omega arith in
    flagged-suc (first + 1) i (set flags first true)
    ∙ ap (λ (h : ℕ). set (flagged (first + 1) i (set flags first true)) h true) next

flagged-later : (first i n : ℕ) (flags : List Bool) → first + i ≤ n → get_or (flagged first i flags) n false ≡ get_or flags n false
flagged-later first zero n flags le = refl
flagged-later first (suc i) n flags le =
    flagged-later (first + 1) i n (set flags first true) (omega arith)
    ∙ get_or-set_other flags first n true false (λ same. absurd (omega (arith, same)))

pub arrive-within : (before now : States) (first i : ℕ) → now ≡ record before { arrived = flagged first i before.arrived } →
    slice_get before.arrived (first + i) ≡ Some false → first + i < length now.arrived
arrive-within before now first i is there =
    let size : length now.arrived ≡ length before.arrived =
    ap (λ (t : States). length t.arrived) is ∙ length-flagged first i before.arrived in
    let within : first + i < length before.arrived = slice_get_within before.arrived (first + i) false there in
    omega arith

pub arrive-new : (before now : States) (first i : ℕ) → now ≡ record before { arrived = flagged first i before.arrived } →
    slice_get before.arrived (first + i) ≡ Some false → holds now.arrived (first + i) ≡ false
arrive-new before now first i is there =
    ap (λ (t : States). get_or t.arrived (first + i) false) is
    ∙ flagged-later first i (first + i) before.arrived (omega arith)
    ∙ get_or_from_slice_get before.arrived (first + i) false false there

pub arrive-next : (before now later : States) (first i : ℕ) → now ≡ record before { arrived = flagged first i before.arrived } →
    later ≡ with_arrived now (first + i) → later ≡ record before { arrived = flagged first (i + 1) before.arrived }
arrive-next before now later first i is told =
    told ∙ ap (λ (t : States). with_arrived t (first + i)) is
    ∙ ap (λ (flags : List Bool). record before { arrived = flags })
    (sym (ap (λ (n : ℕ). flagged first n before.arrived) (add-one i) ∙ flagged-suc first i before.arrived))

-- by the cells of a record

filled-set : (n i : ℕ) (cells : List (Option Product)) → i < n → i < length cells → is_some (get_or cells i None) ≡ true →
    set (filled n (map is_some (take i cells))) i true ≡ filled n (map is_some (take (suc i) cells))
filled-set zero i cells lt within some = absurd (omega arith)
filled-set (suc n) i [] lt within some = absurd (omega arith)
filled-set (suc n) zero (cell ∷ cells) lt within some = ap (λ (b : Bool). b ∷ filled n []) (sym some)
filled-set (suc n) (suc i) (cell ∷ cells) lt within some =
    ap (λ (flags : List Bool). is_some cell ∷ flags) (filled-set n i cells (omega arith) (omega arith) some)

filled-kept : (n i : ℕ) (cells : List (Option Product)) → i < length cells → is_some (get_or cells i None) ≡ false →
    filled n (map is_some (take i cells)) ≡ filled n (map is_some (take (suc i) cells))
filled-kept zero i cells within none = refl
filled-kept (suc n) i [] within none = absurd (omega arith)
filled-kept (suc n) zero (cell ∷ cells) within none = ap (λ (b : Bool). b ∷ filled n []) (sym none)
filled-kept (suc n) (suc i) (cell ∷ cells) within none =
    ap (λ (flags : List Bool). is_some cell ∷ flags) (filled-kept n i cells (omega arith) none)

filled-later : (n i : ℕ) (cells : List (Option Product)) → get_or (filled n (map is_some (take i cells))) i false ≡ false
filled-later zero i cells = refl
filled-later (suc n) zero cells = refl
filled-later (suc n) (suc i) [] = past n i
  where
    past : (n i : ℕ) → get_or (filled n []) i false ≡ false
    past zero i = refl
    past (suc n) zero = refl
    past (suc n) (suc i) = past n i
filled-later (suc n) (suc i) (cell ∷ cells) = filled-later n i cells

none-filled : (n : ℕ) → replicate n false ≡ filled n []
none-filled zero = refl
none-filled (suc n) = ap (λ (flags : List Bool). false ∷ flags) (none-filled n)

-- the states where the first cells have been looked at
abbrev pub present : States → ℕ → List (Option Product) → States
present before i cells = record before { arrived = filled (length before.arrived) (map is_some (take i cells)) }

pub present-none : (before : States) (cells : List (Option Product)) → before.arrived ≡ replicate (length before.arrived) false →
    before ≡ present before 0 cells
present-none before cells none =
    ap (λ (flags : List Bool). record before { arrived = flags }) (none ∙ none-filled (length before.arrived))

pub present-within : (before now : States) (i : ℕ) (cells : List (Option Product)) → now ≡ present before i cells →
    i < length cells → length cells ≤ length before.arrived → i < length now.arrived
present-within before now i cells is lt le =
    let size : length now.arrived ≡ length before.arrived =
    ap (λ (t : States). length t.arrived) is ∙ length-filled (length before.arrived) (map is_some (take i cells)) in
    omega arith

pub present-new : (before now : States) (i : ℕ) (cells : List (Option Product)) → now ≡ present before i cells →
    holds now.arrived i ≡ false
present-new before now i cells is =
    ap (λ (t : States). get_or t.arrived i false) is ∙ filled-later (length before.arrived) i cells

pub present-next : (before now later : States) (i : ℕ) (cells : List (Option Product)) → now ≡ present before i cells →
    i < length cells → length cells ≤ length before.arrived → is_some (get_or cells i None) ≡ true →
    later ≡ with_arrived now i → later ≡ present before (i + 1) cells
present-next before now later i cells is lt le some told =
    told ∙ ap (λ (t : States). with_arrived t i) is
    ∙ ap (λ (flags : List Bool). record before { arrived = flags })
    (filled-set (length before.arrived) i cells (omega arith) lt some
    ∙ ap (λ (n : ℕ). filled (length before.arrived) (map is_some (take n cells))) (sym (add-one i)))

pub present-kept : (before now : States) (i : ℕ) (cells : List (Option Product)) → now ≡ present before i cells →
    i < length cells → is_some (get_or cells i None) ≡ false → now ≡ present before (i + 1) cells
present-kept before now i cells is lt none =
    is
    ∙ ap (λ (flags : List Bool). record before { arrived = flags })
    (filled-kept (length before.arrived) i cells lt none
    ∙ ap (λ (n : ℕ). filled (length before.arrived) (map is_some (take n cells))) (sym (add-one i)))

pub cell-read : (cells : List (Option Product)) (i : ℕ) (cell : Option Product) → i < length cells → cell ≡ get_or cells i cell →
    is_some (get_or cells i None) ≡ is_some cell
cell-read [] i cell lt e = absurd (omega arith)
cell-read (x ∷ cells) zero cell lt e = ap is_some (sym e)
cell-read (x ∷ cells) (suc i) cell lt e = cell-read cells i cell (omega arith) e
