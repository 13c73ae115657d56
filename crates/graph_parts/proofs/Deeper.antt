-- One round of depth, and the first flag that is set.
use Rattle.std.proofs.Common.{◌≡◌, ℕ, zero, suc, ◌+◌, ◌<◌, ◌≤◌, Bool, true, false, cond, List, [], ◌∷◌, length, map, get_or, replicate, slice_get, Some, None, position, find, refl, ap, sym, ◌∙◌, add-one, arith, Global, All}
use Rattle.std.proofs.lemmas.Iterator.Adapters.{position_from-zero}
use Rattle.std.proofs.lemmas.Option.{slice_get-get_or}
use Rattle.std.proofs.lemmas.List.{get_or-map, length-map, length-replicate, get_or-replicate}
use Rattle.std.specs.List.{list_any, position_from, range_with_len}
use Rattle.std.specs.Option.{option_map_or}
use Rattle.std.specs.declared.vec.Vec.{Vec}
use Rattle.text_model.specs.Walks.{is_deeper_than}
use Rattle.graph_parts.specs.Links.{links, AreWithin, deeper_by}
use Rattle.graph_parts.proofs.Leading.{links-within}

flag-at : (flags : List Bool) (vs : List (Vec ℕ Global)) (n : ℕ) → n < length vs →
    get_or (map (λ (v : Vec ℕ Global). deeper_by flags v.items) vs) n false ≡ deeper_by flags (links vs n)
flag-at flags [] n h = absurd (omega arith)
flag-at flags (v ∷ vs) zero h = refl
flag-at flags (v ∷ vs) (suc n) h = flag-at flags vs n (omega arith)

-- the flags are those of a test
abbrev pub Tell : List Bool → ℕ → (ℕ → Bool) → Type 0
Tell flags size test = (length flags ≡ size) × ((n : ℕ) → n < size → get_or flags n false ≡ test n)

position_from-told : (test : ℕ → Bool) (flags : List Bool) (from : ℕ) → ((i : ℕ) → i < length flags → get_or flags i false ≡ test (from + i)) →
    position_from (λ flag. flag) from flags ≡ find test (range_with_len from (length flags))
position_from-told test [] from told = refl
position_from-told test (flag ∷ flags) from told =
    let here : flag ≡ test from = told 0 (omega arith) ∙ ap test (omega arith) in
    let later : (i : ℕ) → i < length flags → get_or flags i false ≡ test (from + 1 + i) =
    λ i h. told (suc i) (omega arith) ∙ ap test (omega arith) in
    rw (here, position_from-told test flags (from + 1) later) refl

pub first-told : (test : ℕ → Bool) (flags : List Bool) (size : ℕ) → Tell flags size test →
    position (λ flag. flag) flags ≡ find test (range_with_len 0 size)
first-told test flags size told =
    position_from-zero (λ flag. flag) flags
    ∙ position_from-told test flags 0 from_zero
    ∙ ap (λ n. find test (range_with_len 0 n)) told.0
  where
    from_zero : (i : ℕ) → i < length flags → get_or flags i false ≡ test (0 + i)
    from_zero i h = let e = told.0 in told.1 i (omega arith) ∙ ap test (omega arith)

any-agree : (p q : ℕ → Bool) (ns : List ℕ) (size : ℕ) → All (λ t. t < size) ns → ((n : ℕ) → n < size → p n ≡ q n) → list_any p ns ≡ list_any q ns
any-agree p q [] size all same = refl
any-agree p q (n ∷ ns) size all same =
    rw (same n (all 0 0 (omega arith)), any-agree p q ns size (λ k d h. all (suc k) d (omega arith)) same) refl

pub tell-none : (next : List (Vec ℕ Global)) (flags : List Bool) → flags ≡ replicate (length next) true →
    Tell flags (length next) (is_deeper_than (links next) 0)
unfolding is_deeper_than
tell-none next flags e = rw e (length-replicate (length next) true, λ n h. get_or-replicate (length next) n true false h)

pub tell-more : (next : List (Vec ℕ Global)) (flags others : List Bool) (further : ℕ) → AreWithin next → Tell flags (length next) (is_deeper_than (links next) further) →
    others ≡ map (λ (v : Vec ℕ Global). deeper_by flags v.items) next → Tell others (length next) (is_deeper_than (links next) (further + 1))
unfolding is_deeper_than
tell-more next flags others further within told e = rw e (length-map next (λ v. deeper_by flags v.items), λ n h. rw add-one (one n h))
  where
    one : (n : ℕ) → n < length next →
        get_or (map (λ (v : Vec ℕ Global). deeper_by flags v.items) next) n false ≡ list_any (is_deeper_than (links next) further) (links next n)
    one n h =
        flag-at flags next n h
        ∙ any-agree (λ t. get_or flags t false) (is_deeper_than (links next) further) (links next n) (length next) (links-within (length next) next n within) told.1
