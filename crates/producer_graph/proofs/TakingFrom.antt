-- The algorithms that one takes from: by the producers of the handles that it takes, and by the names of its inputs and of their
-- outputs.
use Rattle.std.proofs.Common.{◌≡◌, ℕ, zero, suc, ◌+◌, ◌<◌, nat_eq, Bool, true, false, ◌||◌, ◌&&◌, if◌then◌else◌, List, [], ◌∷◌, ◌++◌, length, get_or, map, slice_get, replicate, Option, Some, None, All, filter_map, refl, ap, sym, subst, ◌∙◌, length-append, arith, Global}
use Rattle.std.proofs.lemmas.Bool.{and_from, and_parts, eq-eqb, eqb-true}
use Rattle.std.proofs.lemmas.List.{length-replicate}
use Rattle.std.proofs.lemmas.List.Elements.{All-nil, All-cons}
use Rattle.std.proofs.lemmas.List.Folds.{Any-from_list_any, list_any_at}
use Rattle.std.proofs.lemmas.List.FromFn.{get_or-range_with_len, length-range_with_len}
use Rattle.std.specs.List.{Any, cons_option, enumerate_from, flat_map, list_any, range_with_len}
use Rattle.std.specs.Option.{option_map_or}
use Rattle.std.specs.declared.vec.Vec.{Vec}
use Rattle.hive_model.specs.Same.{same_text}
use Rattle.graph_parts.specs.Links.{links}
use Rattle.text_model.specs.Names.{first_repeated, is_among, number_of, numbers_where}
use Rattle.text_model.specs.Producers.{Need, handles_of, producers_of, sources_of, takes_from}
use Rattle.text_model.specs.Walks.{is_on_cycle, leads_within}
use Rattle.producer_graph.proofs.Numbering.{found-name, holds-taken}
use Rattle.producer_graph.specs.Lists.{items}
use Rattle.producer_graph.specs.Parts.{taken_by, taken_by_each}
use Rattle.producer_graph.specs.Sources.{producers_in}
use Rattle.producer_graph.specs.Takers.{holds}

-- tests over lists

same-bool : (a b : Bool) → (a ≡ true → b ≡ true) → (b ≡ true → a ≡ true) → a ≡ b
same-bool true b f g = sym (f refl)
same-bool false true f g = g refl
same-bool false false f g = refl

any-agree : {X : Type 0} (p q : X → Bool) → ((x : X) → p x ≡ q x) → (xs : List X) → list_any p xs ≡ list_any q xs
any-agree p q same [] = refl
any-agree p q same (x ∷ xs) = rw (same x, any-agree p q same xs) refl

or-assoc : (a b c : Bool) → ((a || b) || c) ≡ (a || (b || c))
or-assoc true b c = refl
or-assoc false b c = refl

and-or : (a b c : Bool) → ((a && c) || (b && c)) ≡ ((a || b) && c)
and-or true b true = refl
and-or true true false = refl
and-or true false false = refl
and-or false b c = refl

any-and : {X : Type 0} (t : X → Bool) (c : Bool) (xs : List X) → list_any (λ x. t x && c) xs ≡ (list_any t xs && c)
any-and t c [] = refl
any-and t c (x ∷ xs) = ap (λ later. (t x && c) || later) (any-and t c xs) ∙ and-or (t x) (list_any t xs) c

any-option : (p : ℕ → Bool) (o : Option ℕ) (rest : List ℕ) → list_any p (cons_option o rest) ≡ (option_map_or p o false || list_any p rest)
any-option p None rest = refl
any-option p (Some n) rest = refl

any-producers : (p : ℕ → Bool) (producers : List (Option ℕ)) (hs : List ℕ) →
    list_any p (producers_in producers hs) ≡ list_any (λ h. option_map_or p (get_or producers h None) false) hs
any-producers p producers [] = refl
any-producers p producers (h ∷ hs) =
    any-option p (get_or producers h None) (producers_in producers hs)
    ∙ ap (λ later. option_map_or p (get_or producers h None) false || later) (any-producers p producers hs)

-- a test on some of so many numbers
any-held : (q : ℕ → Bool) (hs : List ℕ) (count : ℕ) → All (λ h. h < count) hs → list_any q hs ≡ list_any (λ h. holds h hs && q h) (range_with_len 0 count)
any-held q hs count within = same-bool (list_any q hs) (list_any (λ h. holds h hs && q h) (range_with_len 0 count)) forth back
  where
    forth : list_any q hs ≡ true → list_any (λ h. holds h hs && q h) (range_with_len 0 count) ≡ true
    forth e =
        let it = Any-from_list_any q hs e in
        let h : ℕ = it.1 in
        let less : h < count = subst (λ (n : ℕ). n < count) it.3 (within it.0 h it.2) in
        let here : get_or (range_with_len 0 count) h 0 ≡ h = get_or-range_with_len 0 count h 0 less ∙ (omega arith) in
        let held : holds h hs ≡ true = list_any_at (nat_eq h) hs it.0 h it.2 (eq-eqb h (get_or hs it.0 h) (sym it.3)) in
        list_any_at (λ n. holds n hs && q n) (range_with_len 0 count) h 0 (rw (length-range_with_len 0 count) less)
        (rw here (and_from (holds h hs) (q h) held it.4))

    back : list_any (λ h. holds h hs && q h) (range_with_len 0 count) ≡ true → list_any q hs ≡ true
    back e =
        let it = Any-from_list_any (λ h. holds h hs && q h) (range_with_len 0 count) e in
        let h : ℕ = it.1 in
        let parts = and_parts (holds h hs) (q h) it.4 in
        let at = Any-from_list_any (nat_eq h) hs parts.0 in
        let same : h ≡ get_or hs at.0 at.1 = eqb-true h at.1 at.4 ∙ sym at.3 in
        list_any_at q hs at.0 at.1 at.2 (subst (λ (n : ℕ). q n ≡ true) same parts.1)

any-range : (p q : ℕ → Bool) (from size : ℕ) → ((i : ℕ) → i < size → p (from + i) ≡ q (from + i)) →
    list_any p (range_with_len from size) ≡ list_any q (range_with_len from size)
any-range p q from zero same = refl
any-range p q from (suc size) same =
    let here : p from ≡ q from = ap p (omega arith) ∙ same 0 (omega arith) ∙ ap q (omega arith) in
    rw (here, any-range p q (from + 1) size (λ i lt. ap p (omega arith) ∙ same (suc i) (omega arith) ∙ ap q (omega arith))) refl

-- a test over two lists, side by side
any_beside : (List ℕ → Option ℕ → Bool) → List (List ℕ) → List (Option ℕ) → Bool
any_beside f [] ws = false
any_beside f (o ∷ os) [] = false
any_beside f (o ∷ os) (w ∷ ws) = f o w || any_beside f os ws

beside-range : (f : List ℕ → Option ℕ → Bool) (g : ℕ → Bool) (from : ℕ) (os : List (List ℕ)) (ws : List (Option ℕ)) → length os ≡ length ws →
    ((i : ℕ) → i < length os → g (from + i) ≡ f (get_or os i []) (get_or ws i None)) → list_any g (range_with_len from (length os)) ≡ any_beside f os ws
unfolding any_beside
beside-range f g from [] ws e same = refl
beside-range f g from (o ∷ os) [] e same = absurd (omega arith)
beside-range f g from (o ∷ os) (w ∷ ws) e same =
    let here : g from ≡ f o w = ap g (omega arith) ∙ same 0 (omega arith) in
    rw (here, beside-range f g (from + 1) os ws (omega arith) (λ i lt. ap g (omega arith) ∙ same (suc i) (omega arith))) refl

beside-append : (f : List ℕ → Option ℕ → Bool) (os more : List (List ℕ)) (ws others : List (Option ℕ)) → length os ≡ length ws →
    any_beside f (os ++ more) (ws ++ others) ≡ (any_beside f os ws || any_beside f more others)
unfolding any_beside
beside-append f [] more [] others e = refl
beside-append f [] more (w ∷ ws) others e = absurd (omega arith)
beside-append f (o ∷ os) more [] others e = absurd (omega arith)
beside-append f (o ∷ os) more (w ∷ ws) others e =
    ap (λ later. f o w || later) (beside-append f os more ws others (omega arith))
    ∙ sym (or-assoc (f o w) (any_beside f os ws) (any_beside f more others))

beside-same : (f : List ℕ → Option ℕ → Bool) (os : List (List ℕ)) (w : Option ℕ) → any_beside f os (replicate (length os) w) ≡ list_any (λ o. f o w) os
unfolding any_beside
beside-same f [] w = refl
beside-same f (o ∷ os) w = ap (λ later. f o w || later) (beside-same f os w)

-- an input has the handle's name, and the test passes at its producer
takes_one : List (List ℕ) → (ℕ → Bool) → List ℕ → Option ℕ → Bool
takes_one inputs p o w = is_among inputs o && option_map_or p w false

beside-raws : (inputs : List (List ℕ)) (p : ℕ → Bool) (raws : List (List ℕ)) → any_beside (takes_one inputs p) raws (replicate (length raws) None) ≡ false
unfolding takes_one
beside-raws inputs p raws =
    beside-same (takes_one inputs p) raws None ∙ any-and (is_among inputs) false raws ∙ and-false (list_any (is_among inputs) raws)
  where
    and-false : (b : Bool) → (b && false) ≡ false
    and-false true = refl
    and-false false = refl

beside-needs : (a : Need) (p : ℕ → Bool) (from : ℕ) (needs : List Need) →
    any_beside (takes_one a.inputs p) (flat_map (λ (b : Need). b.outputs) needs)
    (flat_map (λ (it : ℕ × Need). replicate (length it.1.outputs) (Some it.0)) (enumerate_from from needs))
    ≡ list_any p (filter_map (λ (it : ℕ × Need). if takes_from a it.1 then Some it.0 else None) (enumerate_from from needs))
unfolding takes_one any_beside
beside-needs a p from [] = refl
beside-needs a p from (b ∷ needs) =
    beside-append (takes_one a.inputs p) b.outputs (flat_map (λ (b : Need). b.outputs) needs) (replicate (length b.outputs) (Some from))
    (flat_map (λ (it : ℕ × Need). replicate (length it.1.outputs) (Some it.0)) (enumerate_from (from + 1) needs))
    (sym (length-replicate (length b.outputs) (Some from)))
    ∙ rw (beside-same (takes_one a.inputs p) b.outputs (Some from), any-and (is_among a.inputs) (p from) b.outputs, beside-needs a p (from + 1) needs)
    (by (takes_from a b) (filter_map (λ (it : ℕ × Need). if takes_from a it.1 then Some it.0 else None) (enumerate_from (from + 1) needs)))
  where
    by : (t : Bool) (rest : List ℕ) → ((t && p from) || list_any p rest) ≡ list_any p (cons_option (if t then Some from else None) rest)
    by true rest = refl
    by false rest = refl

outputs-beside : (from : ℕ) (needs : List Need) →
    length (flat_map (λ (b : Need). b.outputs) needs)
    ≡ length (flat_map (λ (it : ℕ × Need). replicate (length it.1.outputs) (Some it.0)) (enumerate_from from needs))
outputs-beside from [] = refl
outputs-beside from (b ∷ needs) =
    let left = length-append b.outputs (flat_map (λ (b : Need). b.outputs) needs) in
    let right =
    length-append (replicate (length b.outputs) (Some from))
    (flat_map (λ (it : ℕ × Need). replicate (length it.1.outputs) (Some it.0)) (enumerate_from (from + 1) needs)) in
    let same = length-replicate (length b.outputs) (Some from) in
    let later = outputs-beside (from + 1) needs in
    omega (arith, left, right, same, later)

pub as-many-producers : (raws : List (List ℕ)) (needs : List Need) → length (handles_of raws needs) ≡ length (producers_of raws needs)
as-many-producers raws needs =
    let left = length-append raws (flat_map (λ (b : Need). b.outputs) needs) in
    let right =
    length-append (replicate (length raws) None)
    (flat_map (λ (it : ℕ × Need). replicate (length it.1.outputs) (Some it.0)) (enumerate_from 0 needs)) in
    let same = length-replicate {A = Option ℕ} (length raws) None in
    let later = outputs-beside 0 needs in
    omega (arith, left, right, same, later)

taken-within : (names inputs : List (List ℕ)) → All (λ h. h < length names) (filter_map (number_of names) inputs)
taken-within names [] = All-nil (λ h. h < length names)
taken-within names (x ∷ inputs) = by (number_of names x) (filter_map (number_of names) inputs) refl (taken-within names inputs)
  where
    by : (o : Option ℕ) (rest : List ℕ) → number_of names x ≡ o → All (λ h. h < length names) rest → All (λ h. h < length names) (cons_option o rest)
    by None rest e all = all
    by (Some k) rest e all = All-cons (λ h. h < length names) k rest ((found-name names x k [] e).0) all

pub all-taken-within : (names : List (List ℕ)) (inputs : List (Vec ℕ Global)) (needs : List Need) → items inputs ≡ taken_by_each names needs →
    All (λ (v : Vec ℕ Global). All (λ h. h < length names) v.items) inputs
all-taken-within names [] needs e = All-nil (λ (v : Vec ℕ Global). All (λ h. h < length names) v.items)
all-taken-within names (v ∷ inputs) [] e = cc
all-taken-within names (v ∷ inputs) (a ∷ needs) e =
    let here : v.items ≡ taken_by names a = cc in
    let later : items inputs ≡ taken_by_each names needs = cc in
    All-cons (λ (v : Vec ℕ Global). All (λ h. h < length names) v.items) v inputs
    (subst (λ (hs : List ℕ). All (λ h. h < length names) hs) (sym here) (taken-within names a.inputs))
    (all-taken-within names inputs needs later)

-- a test over those that one takes from, both ways
sources-agree : (raws : List (List ℕ)) (needs : List Need) (a : Need) (p : ℕ → Bool) → first_repeated same_text (handles_of raws needs) ≡ None →
    list_any p (producers_in (producers_of raws needs) (taken_by (handles_of raws needs) a)) ≡ list_any p (numbers_where (takes_from a) needs)
unfolding takes_one
sources-agree raws needs a p once =
    any-producers p producers hs
    ∙ any-held q hs (length handles) (taken-within handles a.inputs)
    ∙ any-range (λ h. holds h hs && q h) (λ h. is_among a.inputs (get_or handles h []) && q h) 0 (length handles)
    (λ i lt. let same : 0 + i ≡ i = omega arith in rw same (ap (λ b. b && q i) (holds-taken handles a.inputs i [] once lt)))
    ∙ beside-range (takes_one a.inputs p) (λ h. is_among a.inputs (get_or handles h []) && q h) 0 handles producers (as-many-producers raws needs)
    (λ i lt. let same : 0 + i ≡ i = omega arith in rw same refl)
    ∙ beside-append (takes_one a.inputs p) raws (flat_map (λ (b : Need). b.outputs) needs) (replicate (length raws) None)
    (flat_map (λ (it : ℕ × Need). replicate (length it.1.outputs) (Some it.0)) (enumerate_from 0 needs)) (sym (length-replicate (length raws) None))
    ∙ rw (beside-raws a.inputs p raws) (beside-needs a p 0 needs)
  where
    handles : List (List ℕ)
    handles = handles_of raws needs

    producers : List (Option ℕ)
    producers = producers_of raws needs

    hs : List ℕ
    hs = taken_by (handles_of raws needs) a

    q : ℕ → Bool
    q h = option_map_or p (get_or (producers_of raws needs) h None) false

abbrev pub SameTests : (ℕ → List ℕ) → (ℕ → List ℕ) → Type 0
SameTests next other = (m : ℕ) (p : ℕ → Bool) → list_any p (next m) ≡ list_any p (other m)

linked : (f : Need → List ℕ) (sources : List (Vec ℕ Global)) (needs : List Need) (m : ℕ) → items sources ≡ map f needs →
    links sources m ≡ option_map_or f (slice_get needs m) []
linked f [] [] m e = refl
linked f [] (a ∷ needs) m e = cc
linked f (v ∷ sources) [] m e = cc
linked f (v ∷ sources) (a ∷ needs) zero e = cc
linked f (v ∷ sources) (a ∷ needs) (suc m) e = let later : items sources ≡ map f needs = cc in linked f sources needs m later

pub same-sources : (raws : List (List ℕ)) (needs : List Need) (sources : List (Vec ℕ Global)) → first_repeated same_text (handles_of raws needs) ≡ None →
    items sources ≡ map (λ (a : Need). producers_in (producers_of raws needs) (taken_by (handles_of raws needs) a)) needs →
    SameTests (links sources) (sources_of needs)
same-sources raws needs sources once e m p =
    ap (list_any p) (linked (λ (a : Need). producers_in (producers_of raws needs) (taken_by (handles_of raws needs) a)) sources needs m e) ∙ by (slice_get needs m)
  where
    by : (o : Option Need) →
        list_any p (option_map_or (λ (a : Need). producers_in (producers_of raws needs) (taken_by (handles_of raws needs) a)) o [])
        ≡ list_any p (option_map_or (λ (a : Need). numbers_where (takes_from a) needs) o [])
    by None = refl
    by (Some a) = sources-agree raws needs a p once

pub same-leads : (next other : ℕ → List ℕ) → SameTests next other → (steps from to : ℕ) → leads_within next steps from to ≡ leads_within other steps from to
unfolding leads_within
same-leads next other same zero from to = refl
same-leads next other same (suc steps) from to =
    any-agree (λ n. nat_eq n to || leads_within next steps n to) (λ n. nat_eq n to || leads_within other steps n to)
    (λ n. ap (λ later. nat_eq n to || later) (same-leads next other same steps n to)) (next from)
    ∙ same from (λ n. nat_eq n to || leads_within other steps n to)
