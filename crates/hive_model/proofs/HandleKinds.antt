-- The kinds of the outputs of a list of algorithms, algorithm by algorithm.
use Rattle.std.proofs.Common.{◌≡◌, ℕ, suc, ◌+◌, ◌-◌, ◌<◌, ◌≤◌, List, ◌++◌, length, drop, get_or, slice_get, ap, ◌∙◌, sym, refl, add-one, length-append}
use Rattle.std.proofs.Math.Seq.{drop-cons}
use Rattle.std.proofs.lemmas.List.{length-map}
use Rattle.std.specs.List.{flat_map}
use Rattle.hive_model.specs.Algorithm.{Algorithm}
use Rattle.hive_model.specs.Handles.{output_kinds}
use Rattle.hive_model.proofs.Lists.{slice_get-append_front, slice_get-append_back}

-- those from an algorithm on are its own and those of the algorithms behind it
pub output_kinds-drop : (xs : List Algorithm) (i : ℕ) (a : Algorithm) → i < length xs → a ≡ get_or xs i a →
    flat_map output_kinds (drop i xs) ≡ output_kinds a ++ flat_map output_kinds (drop (i + 1) xs)
output_kinds-drop xs i a h e =
    rw (add-one, drop-cons xs i a h) (ap (λ it. output_kinds it ++ flat_map output_kinds (drop (suc i) xs)) (sym e))

-- a place among an algorithm's own outputs
pub kind-here : (xs : List Algorithm) (i place : ℕ) (a : Algorithm) → i < length xs → a ≡ get_or xs i a → place < length a.outputs →
    slice_get (flat_map output_kinds (drop i xs)) place ≡ slice_get (output_kinds a) place
kind-here xs i place a h e lt =
    ap (λ ks. slice_get ks place) (output_kinds-drop xs i a h e)
    ∙ slice_get-append_front (output_kinds a) _ place (rw length-map lt)

-- a place behind them
pub kind-behind : (xs : List Algorithm) (i place : ℕ) (a : Algorithm) → i < length xs → a ≡ get_or xs i a → length a.outputs ≤ place →
    slice_get (flat_map output_kinds (drop (i + 1) xs)) (place - length a.outputs) ≡ slice_get (flat_map output_kinds (drop i xs)) place
kind-behind xs i place a h e le =
    sym (ap (λ ks. slice_get ks place) (output_kinds-drop xs i a h e)
    ∙ slice_get-append_back (output_kinds a) _ place (rw length-map le)
    ∙ ap (λ n. slice_get (flat_map output_kinds (drop (i + 1) xs)) (place - n)) (length-map a.outputs _))

pub length-behind : (xs : List Algorithm) (i : ℕ) (a : Algorithm) → i < length xs → a ≡ get_or xs i a →
    length (flat_map output_kinds (drop i xs)) ≡ length a.outputs + length (flat_map output_kinds (drop (i + 1) xs))
length-behind xs i a h e = rw (output_kinds-drop xs i a h e, length-append, length-map) refl
