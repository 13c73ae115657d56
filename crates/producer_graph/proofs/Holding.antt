-- What vectors hold, beside the lists of the definitions.
use Rattle.std.proofs.Common.{◌≡◌, ◌≢◌, ℕ, zero, suc, ◌+◌, ◌<◌, ◌≤◌, Bool, List, [], ◌∷◌, ◌++◌, length, get_or, set, map, drop, replicate, slice_get, Option, Some, None, Result, Ok, Err, All, option_map, filter_map, refl, ap, sym, subst, ◌∙◌, ⊎_elim, arith, Global}
use Rattle.std.proofs.lemmas.Bool.{cases_lt}
use Rattle.std.proofs.lemmas.List.{drop_more, get_or-map, get_or_past, length-map, map-set}
use Rattle.std.proofs.lemmas.List.Elements.{All-nil, All-cons, All-append, All-replicate}
use Rattle.std.specs.List.{cons_option, enumerate_from, flat_map}
use Rattle.std.specs.declared.vec.Vec.{Vec}
use Rattle.hive_model.specs.Same.{same_text}
use Rattle.text_model.specs.Gives.{Gives}
use Rattle.text_model.specs.Names.{first_repeated}
use Rattle.text_model.specs.Producers.{Graph, Need, data_cycle, graph_of, graph_over, handles_of, no_producer, producers_of, takers_of, two_producers}
use Rattle.text_model.specs.Steps.{refuse_found}
use Rattle.text_model.specs.declared.graph_refusal.GraphRefusal.{GraphRefusal}
use Rattle.text_model.specs.declared.graph_refusal.GraphRefusal.TheVariants.{NoMemory, TwoProducers}
use Rattle.producer_graph.specs.Acyclic.{graph_unless_cyclic}
use Rattle.producer_graph.specs.Lists.{items}
use Rattle.producer_graph.specs.Parts.{taken_by, taken_by_each}
use Rattle.producer_graph.specs.Sources.{producers_in}
use Rattle.producer_graph.specs.Takers.{pushed_once, with_consumer}

pub items-at : (each : List (Vec ℕ Global)) (i : ℕ) (v : Vec ℕ Global) (hs : List ℕ) → i < length each → v ≡ get_or each i v → hs ≡ v.items → hs ≡ get_or (items each) i hs
items-at each i v hs lt at same =
    subst (λ (it : List ℕ). it ≡ get_or (items each) i it) (sym same)
    (ap (λ (w : Vec ℕ Global). w.items) at ∙ sym (get_or-map (λ (w : Vec ℕ Global). w.items) each i v v.items lt))

pub all-at : (P : List ℕ → Type 0) (each : List (Vec ℕ Global)) (i : ℕ) (v : Vec ℕ Global) (hs : List ℕ) → All (λ (v : Vec ℕ Global). P v.items) each →
    i < length each → v ≡ get_or each i v → hs ≡ v.items → P hs
all-at P each i v hs all lt at same = subst P (sym same) (subst (λ (w : Vec ℕ Global). P w.items) (sym at) (all i v lt))

pub added-one : (each : List (Vec ℕ Global)) (hs : List ℕ) (i n : ℕ) (old new : Vec ℕ Global) → i < length hs → get_or hs i 0 < length each →
    old ≡ get_or each (get_or hs i 0) old → new.items ≡ pushed_once old.items n →
    with_consumer (items (set each (get_or hs i 0) new)) (drop (i + 1) hs) n ≡ with_consumer (items each) (drop i hs) n
added-one each hs i n old new lt inside at is =
    let before : old.items ≡ get_or (items each) (get_or hs i 0) [] =
    ap (λ (w : Vec ℕ Global). w.items) at ∙ sym (get_or-map (λ (w : Vec ℕ Global). w.items) each (get_or hs i 0) old [] inside) in
    rw (map-set (λ (v : Vec ℕ Global). v.items) each (get_or hs i 0) new, is, before)
    (ap (λ (them : List ℕ). with_consumer (items each) them n) (sym (drop_more hs i 0 lt)))

-- producers are algorithms

IsBelow : ℕ → Option ℕ → Type 0
IsBelow size o = (n : ℕ) → o ≡ Some n → n < size

outputs-below : (from size : ℕ) (needs : List Need) → from + length needs ≡ size →
    All (IsBelow size) (flat_map (λ (it : ℕ × Need). replicate (length it.1.outputs) (Some it.0)) (enumerate_from from needs))
unfolding IsBelow
outputs-below from size [] e = All-nil (λ o. (n : ℕ) → o ≡ Some n → n < size)
outputs-below from size (b ∷ needs) e =
    All-append (λ o. (n : ℕ) → o ≡ Some n → n < size) (replicate (length b.outputs) (Some from))
    (flat_map (λ (it : ℕ × Need). replicate (length it.1.outputs) (Some it.0)) (enumerate_from (from + 1) needs))
    (All-replicate (λ o. (n : ℕ) → o ≡ Some n → n < size) (length b.outputs) (Some from) (λ n same. let equal : from ≡ n = cc in omega arith))
    (outputs-below (from + 1) size needs (omega arith))

producer-below : (raws : List (List ℕ)) (needs : List Need) (h n : ℕ) → get_or (producers_of raws needs) h None ≡ Some n → n < length needs
unfolding IsBelow
producer-below raws needs h n e =
    ⊎_elim (λ (inside : h < length (producers_of raws needs)). all h None inside n e)
    (λ (past : length (producers_of raws needs) ≤ h). absurd (let none = sym (get_or_past (producers_of raws needs) h None past) ∙ e in cc))
    (cases_lt h (length (producers_of raws needs)))
  where
    all : All (λ o. (n : ℕ) → o ≡ Some n → n < length needs) (producers_of raws needs)
    all = All-append (λ o. (n : ℕ) → o ≡ Some n → n < length needs) (replicate (length raws) None)
        (flat_map (λ (it : ℕ × Need). replicate (length it.1.outputs) (Some it.0)) (enumerate_from 0 needs))
        (All-replicate (λ o. (n : ℕ) → o ≡ Some n → n < length needs) (length raws) None (λ n same. cc))
        (outputs-below 0 (length needs) needs (omega arith))

some-below : (producers : List (Option ℕ)) (size : ℕ) (hs : List ℕ) → ((h n : ℕ) → get_or producers h None ≡ Some n → n < size) →
    All (λ n. n < size) (producers_in producers hs)
some-below producers size [] below = All-nil (λ n. n < size)
some-below producers size (h ∷ hs) below = by (get_or producers h None) refl (producers_in producers hs) (some-below producers size hs below)
  where
    by : (o : Option ℕ) → get_or producers h None ≡ o → (rest : List ℕ) → All (λ n. n < size) rest → All (λ n. n < size) (cons_option o rest)
    by None e rest all = all
    by (Some n) e rest all = All-cons (λ n. n < size) n rest (below h n e) all

each-below : (producers : List (Option ℕ)) (size : ℕ) (sources : List (Vec ℕ Global)) (inputs : List (List ℕ)) → items sources ≡ map (producers_in producers) inputs →
    ((h n : ℕ) → get_or producers h None ≡ Some n → n < size) → All (λ (v : Vec ℕ Global). All (λ n. n < size) v.items) sources
each-below producers size [] inputs e below = All-nil (λ (v : Vec ℕ Global). All (λ n. n < size) v.items)
each-below producers size (v ∷ sources) [] e below = cc
each-below producers size (v ∷ sources) (hs ∷ inputs) e below =
    let here : v.items ≡ producers_in producers hs = cc in
    let later : items sources ≡ map (producers_in producers) inputs = cc in
    All-cons (λ (v : Vec ℕ Global). All (λ n. n < size) v.items) v sources
    (subst (λ (ns : List ℕ). All (λ n. n < size) ns) (sym here) (some-below producers size hs below))
    (each-below producers size sources inputs later below)

pub sources-below : (raws : List (List ℕ)) (needs : List Need) (producers : List (Option ℕ)) (sources : List (Vec ℕ Global)) (inputs : List (List ℕ)) →
    producers ≡ producers_of raws needs → items sources ≡ map (producers_in producers) inputs →
    All (λ (v : Vec ℕ Global). All (λ n. n < length needs) v.items) sources
sources-below raws needs producers sources inputs same e =
    each-below producers (length needs) sources inputs e
    (λ h n found. producer-below raws needs h n (ap (λ them. get_or them h None) (sym same) ∙ found))

pub as-many-sources : (producers : List (Option ℕ)) (sources : List (Vec ℕ Global)) (names : List (List ℕ)) (inputs : List (List ℕ)) (needs : List Need) →
    items sources ≡ map (producers_in producers) inputs → inputs ≡ taken_by_each names needs → length sources ≡ length needs
as-many-sources producers sources names inputs needs e same =
    sym (length-map sources (λ (v : Vec ℕ Global). v.items)) ∙ ap length e ∙ length-map inputs (producers_in producers)
    ∙ ap length same ∙ length-map needs (taken_by names)

map-twice : (f : List ℕ → List ℕ) (g : Need → List ℕ) (needs : List Need) → map f (map g needs) ≡ map (λ (a : Need). f (g a)) needs
map-twice f g [] = refl
map-twice f g (a ∷ needs) = ap (λ later. f (g a) ∷ later) (map-twice f g needs)

pub sources-by-need : (raws : List (List ℕ)) (needs : List Need) (producers : List (Option ℕ)) (sources : List (Vec ℕ Global)) (inputs : List (List ℕ)) →
    producers ≡ producers_of raws needs → inputs ≡ taken_by_each (handles_of raws needs) needs → items sources ≡ map (producers_in producers) inputs →
    items sources ≡ map (λ (a : Need). producers_in (producers_of raws needs) (taken_by (handles_of raws needs) a)) needs
sources-by-need raws needs producers sources inputs same taken e =
    e ∙ rw (same, taken) (map-twice (producers_in (producers_of raws needs)) (taken_by (handles_of raws needs)) needs)

-- the steps of the definition

pub never-twice : (handles : List (List ℕ)) → two_producers handles ≡ None → first_repeated same_text handles ≡ None
never-twice handles e = by (first_repeated same_text handles) e
  where
    by : (o : Option (List ℕ)) → option_map TwoProducers o ≡ None → o ≡ None
    by None e = refl
    by (Some x) e = cc

pub graph-is : (raws : List (List ℕ)) (needs : List Need) (names : List (List ℕ)) (producers : List (Option ℕ)) (consumers : List (List ℕ)) →
    refuse_found (data_cycle needs) ≡ Ok tt → names ≡ handles_of raws needs → producers ≡ producers_of raws needs →
    consumers ≡ map (takers_of needs) (handles_of raws needs) →
    graph_unless_cyclic raws needs ≡ Ok (record { names = names; producers = producers; consumers = consumers })
unfolding graph_over
graph-is raws needs names producers consumers acyclic a b c = rw (acyclic, a, b, c) refl

pub handles-refused : (raws : List (List ℕ)) (needs : List Need) (e : GraphRefusal) (r : Result Graph GraphRefusal) → r ≡ Err e →
    (e ≢ NoMemory → two_producers (handles_of raws needs) ≡ Some e) → Gives NoMemory r (graph_of raws needs)
unfolding graph_of
handles-refused raws needs e r is twice =
    subst (λ (it : Result Graph GraphRefusal). Gives NoMemory it (graph_of raws needs)) (sym is) (λ other. rw (twice other) refl)

pub inputs-refused : (raws : List (List ℕ)) (needs : List Need) (names : List (List ℕ)) (e : GraphRefusal) (r : Result Graph GraphRefusal) → r ≡ Err e →
    two_producers (handles_of raws needs) ≡ None → names ≡ handles_of raws needs → (e ≢ NoMemory → no_producer names needs ≡ Some e) →
    Gives NoMemory r (graph_of raws needs)
unfolding graph_of
inputs-refused raws needs names e r is once same unknown =
    subst (λ (it : Result Graph GraphRefusal). Gives NoMemory it (graph_of raws needs)) (sym is)
    (λ other. rw (once, ap (λ them. no_producer them needs) (sym same) ∙ unknown other) refl)

pub inputs-known : (raws : List (List ℕ)) (needs : List Need) (names : List (List ℕ)) (r : Result Graph GraphRefusal) →
    two_producers (handles_of raws needs) ≡ None → names ≡ handles_of raws needs → no_producer names needs ≡ None →
    Gives NoMemory r (graph_unless_cyclic raws needs) → Gives NoMemory r (graph_of raws needs)
unfolding graph_of
inputs-known raws needs names r once same known g =
    let whole : graph_of raws needs ≡ graph_unless_cyclic raws needs = rw (once, ap (λ them. no_producer them needs) (sym same) ∙ known) refl in
    subst (λ (m : Result Graph GraphRefusal). Gives NoMemory r m) (sym whole) g
