-- The consumers of a handle, by the numbers of the inputs and by their names.
use Rattle.std.proofs.Common.{◌≡◌, ℕ, zero, suc, ◌+◌, ◌<◌, Bool, true, false, cond, if◌then◌else◌, List, [], ◌∷◌, ◌++◌, length, get_or, map, take, Some, None, filter_map, refl, ap, sym, ◌∙◌, arith, add-one}
use Rattle.std.specs.List.{enumerate_from, list_any, range_with_len}
use Rattle.hive_model.specs.Same.{same_text}
use Rattle.text_model.specs.Names.{first_repeated, is_among, number_of, numbers_where}
use Rattle.text_model.specs.Producers.{Need, takers_of}
use Rattle.producer_graph.proofs.Numbering.{holds-taken}
use Rattle.producer_graph.specs.Parts.{taken_by, taken_by_each}
use Rattle.producer_graph.specs.Takers.{holds, takers_in}

numbered-from : {X Y : Type 0} (p : X → Bool) (q : Y → Bool) (f : X → Y) → ((x : X) → p x ≡ q (f x)) → (from : ℕ) (xs : List X) →
    filter_map (λ (it : ℕ × X). if p it.1 then Some it.0 else None) (enumerate_from from xs)
    ≡ filter_map (λ (it : ℕ × Y). if q it.1 then Some it.0 else None) (enumerate_from from (map f xs))
numbered-from p q f same from [] = refl
numbered-from p q f same from (x ∷ xs) = rw (same x, numbered-from p q f same (from + 1) xs) refl

takers-at : (handles : List (List ℕ)) (needs : List Need) (h : ℕ) (d : List ℕ) → first_repeated same_text handles ≡ None → h < length handles →
    takers_of needs (get_or handles h d) ≡ takers_in (taken_by_each handles needs) h
takers-at handles needs h d e lt =
    numbered-from (λ (a : Need). is_among a.inputs (get_or handles h d)) (holds h) (taken_by handles)
    (λ (a : Need). sym (holds-taken handles a.inputs h d e lt)) 0 needs

each-from : {X Y : Type 0} (f : X → Y) (g : ℕ → Y) (from : ℕ) (xs : List X) → ((h : ℕ) (d : X) → h < length xs → f (get_or xs h d) ≡ g (from + h)) →
    map f xs ≡ map g (range_with_len from (length xs))
each-from f g from [] same = refl
each-from f g from (x ∷ xs) same =
    let here : f x ≡ g from = same 0 x (omega arith) ∙ ap g (omega arith) in
    rw (here, each-from f g (from + 1) xs (λ h d lt. same (suc h) d (omega arith) ∙ ap g (omega arith))) refl

pub all-takers : (handles : List (List ℕ)) (needs : List Need) → first_repeated same_text handles ≡ None →
    map (takers_in (taken_by_each handles needs)) (range_with_len 0 (length handles)) ≡ map (takers_of needs) handles
all-takers handles needs e =
    sym (each-from (takers_of needs) (takers_in (taken_by_each handles needs)) 0 handles
    (λ h d lt. takers-at handles needs h d e lt ∙ ap (takers_in (taken_by_each handles needs)) (omega arith)))
