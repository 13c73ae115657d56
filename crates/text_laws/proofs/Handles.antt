-- What stands at the handle of an output, in lists of all handles: raw ones first, then outputs, algorithm by algorithm.
use Rattle.std.proofs.Common.{◌≡◌, ℕ, zero, suc, ◌+◌, ◌<◌, List, [], ◌∷◌, ◌++◌, length, slice_get, Some, ap, sym, subst, ◌∙◌, append_assoc, length-append, arith}
use Rattle.std.specs.List.{flat_map}
use Rattle.hive_model.specs.Algorithm.{Algorithm}
use Rattle.hive_model.specs.DataFlow.{AreNumberedFrom}
use Rattle.text_laws.proofs.Lists.{get-append_left, get-append_right}

-- the i-th of what an algorithm has for its outputs stands at the handle of its i-th output
pub at-output : {Y : Type 0} (g : Algorithm → List Y) → ((a : Algorithm) → length (g a) ≡ length a.outputs) → (before : List Y) (all : List Algorithm)
    (n : ℕ) (b : Algorithm) (i : ℕ) → AreNumberedFrom (length before) all → slice_get all n ≡ Some b → i < length b.outputs →
    slice_get (before ++ flat_map g all) (b.first_output + i) ≡ slice_get (g b) i
at-output g many before [] n b i numbered e h = cc
at-output g many before (a ∷ all) zero b i (first, rest) e h =
    let same : a ≡ b = cc in
    let begins : b.first_output ≡ length before = rw (← same) first in
    let size = many b in
    let inside : i < length (g b) = omega (arith, size, h) in
    ap (λ (x : Algorithm). slice_get (before ++ (g x ++ flat_map g all)) (b.first_output + i)) same
    ∙ ap (λ (k : ℕ). slice_get (before ++ (g b ++ flat_map g all)) (k + i)) begins
    ∙ get-append_right before (g b ++ flat_map g all) i ∙ get-append_left (g b) (flat_map g all) i inside
at-output g many before (a ∷ all) (suc n) b i (first, rest) e h =
    let size : length before + length a.outputs ≡ length (before ++ g a) = let one = length-append before (g a) in let two = many a in omega (arith, one, two) in
    ap (λ them. slice_get them (b.first_output + i)) (sym (append_assoc before (g a) (flat_map g all)))
    ∙ at-output g many (before ++ g a) all n b i (subst (λ (k : ℕ). AreNumberedFrom k all) size rest) e h
