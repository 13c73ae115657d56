-- Who takes from whom: a job's algorithms, as their names tell it. So where no name comes back to itself, no algorithm does.
use Rattle.std.proofs.Common.{◌≡◌, ℕ, zero, suc, ◌+◌, ◌-◌, ◌<◌, ◌≤◌, nat_eq, Bool, true, false, ◌||◌, if◌then◌else◌, List, [], ◌∷◌, ◌++◌, length, map, find, filter_map, slice_get, Option, Some, None, Ok, option_map, refl, ap, sym, subst, ◌∙◌, arith}
use Rattle.std.proofs.lemmas.Bool.{eqb-true, or_left, or_right}
use Rattle.std.proofs.lemmas.Cmp.{nat_eq_equiv}
use Rattle.std.proofs.lemmas.List.{length-map}
use Rattle.std.proofs.lemmas.List.Folds.{flat_map-map}
use Rattle.std.proofs.lemmas.Map.Views.{list_any-from_Contains}
use Rattle.std.proofs.lemmas.Option.{get_or_from_slice_get, slice_get-map, slice_get_within}
use Rattle.std.specs.Cmp.Lexicographic.{nat_list_eq_equiv}
use Rattle.std.specs.List.{cons_option, enumerate_from, flat_map, list_any}
use Rattle.std.specs.Option.{option_map_or}
use Rattle.hive_model.specs.Algorithm.{Algorithm}
use Rattle.hive_model.specs.DataFlow.{AreNumberedFrom, Takes, TakesFrom}
use Rattle.hive_model.specs.Paths.{HasNoCycle, IsPath}
use Rattle.hive_model.specs.Same.{same_text}
use Rattle.hive_model.specs.Valid.{AreDistinctNames, handle_names, output_names}
use Rattle.hive_model.specs.declared.algorithm.Output.{Output}
use Rattle.hive_model.specs.declared.algorithm.Raw.{Raw}
use Rattle.text_model.specs.Forest.{Forest}
use Rattle.text_model.specs.JobAlgorithms.{Scope}
use Rattle.text_model.specs.Jobs.{job_with, need_of, needs_of, raw_names}
use Rattle.text_model.specs.Names.{first_repeated, is_among, number_of, numbers_where}
use Rattle.text_model.specs.Producers.{Graph, Need, data_cycle, graph_of, graph_over, handles_of, no_producer, sources_of, takes_from, two_producers}
use Rattle.text_model.specs.RawOptions.{RawAlgorithm, RawOptions}
use Rattle.text_model.specs.Walks.{is_on_cycle, leads_within}
use Rattle.text_model.specs.declared.graph_refusal.GraphRefusal.TheVariants.{DataCycle, TwoProducers}
use Rattle.text_laws.proofs.Built.{AreBuilt, IsBuilt, as-many-built, built-at, numbered-built, output_names_built}
use Rattle.text_laws.proofs.Distinct.{distinct_names}
use Rattle.text_laws.proofs.Handles.{at-output}
use Rattle.text_laws.proofs.Lists.{any-at, get-enumerated, got, opened, unfound}
use Rattle.text_laws.proofs.Numbers.{handle-numbered, handle_number, handles-listed, number-same}
use Rattle.text_laws.proofs.Steps.{let-through, same-ok, unmapped}
use Rattle.text_laws.proofs.Walking.{Leads, no_short-no_cycle, path-leads}

-- a graph that was not refused
pub record IsDrawn (raws : List (List ℕ)) (needs : List Need) (g : Graph) : Type 0 where
  pub names : g.names ≡ handles_of raws needs
  pub once : AreDistinctNames (handles_of raws needs)
  pub acyclic : data_cycle needs ≡ None

pub drawn : (raws : List (List ℕ)) (needs : List Need) (g : Graph) → graph_of raws needs ≡ Ok g → IsDrawn raws needs g
unfolding graph_of graph_over
drawn raws needs g e =
    let (once, one) = let-through (λ r. r) (two_producers (handles_of raws needs)) _ g e in
    let (produced, two) = let-through (λ r. r) (no_producer (handles_of raws needs) needs) _ g one in
    let (acyclic, three) = let-through (λ r. r) (data_cycle needs) _ g two in
    record {
      names = sym (ap (λ (it : Graph). it.names) (same-ok _ g three));
      once = distinct_names (handles_of raws needs) (unmapped TwoProducers (first_repeated same_text (handles_of raws needs)) once);
      acyclic = acyclic;
    }

-- names of handles are those that are told
pub named-as-told : (raw : RawOptions) (s : Scope) (all : List Algorithm) (f : Forest) → AreBuilt s (length raw.raws) raw.algorithms all →
    handle_names (job_with raw all f) ≡ handles_of (raw_names raw) (needs_of raw)
named-as-told raw s all f built =
    ap (λ ns. raw_names raw ++ ns)
    (output_names_built s (length raw.raws) raw.algorithms all built ∙ sym (flat_map-map (λ (a : Need). a.outputs) need_of raw.algorithms))

-- what a list of numbers was made of

record IsGiven {X : Type 0} (f : X → Option ℕ) (xs : List X) (h : ℕ) : Type 0 where
  place : ℕ
  it : X
  there : slice_get xs place ≡ Some it
  gives : f it ≡ Some h

given-from : {X : Type 0} (f : X → Option ℕ) (xs : List X) (h : ℕ) → list_any (nat_eq h) (filter_map f xs) ≡ true → IsGiven f xs h
given-from f [] h e = cc
given-from f (x ∷ xs) h e = by (f x) refl e (λ later. given-from f xs h later)
  where
    later-given : IsGiven f xs h → IsGiven f (x ∷ xs) h
    later-given g = record { place = suc g.place; it = g.it; there = g.there; gives = g.gives }

    first : (n : ℕ) (t : Bool) → f x ≡ Some n → nat_eq h n ≡ t → (t || list_any (nat_eq h) (filter_map f xs)) ≡ true →
        (list_any (nat_eq h) (filter_map f xs) ≡ true → IsGiven f xs h) → IsGiven f (x ∷ xs) h
    first n true g test found rest =
        let same : h ≡ n = eqb-true h n test in record { place = 0; it = x; there = refl; gives = rw same g }
    first n false g test found rest = later-given (rest found)

    by : (o : Option ℕ) → f x ≡ o → list_any (nat_eq h) (cons_option o (filter_map f xs)) ≡ true →
        (list_any (nat_eq h) (filter_map f xs) ≡ true → IsGiven f xs h) → IsGiven f (x ∷ xs) h
    by None g found rest = later-given (rest found)
    by (Some n) g found rest = first n (nat_eq h n) g refl found rest

numbers-any : {X : Type 0} (test : X → Bool) (p : ℕ → Bool) (from : ℕ) (xs : List X) (n : ℕ) (x : X) → slice_get xs n ≡ Some x → test x ≡ true →
    p (from + n) ≡ true → list_any p (filter_map (λ (it : ℕ × X). if test it.1 then Some it.0 else None) (enumerate_from from xs)) ≡ true
numbers-any test p from [] n x e h g = cc
numbers-any {X = X} test p from (y ∷ xs) zero x e h g =
    let same : y ≡ x = cc in
    let passes : test y ≡ true = rw same h in
    let here : p from ≡ true = ap p (omega arith) ∙ g in
    rw passes (or_left (p from) (list_any p (filter_map (λ (it : ℕ × X). if test it.1 then Some it.0 else None) (enumerate_from (from + 1) xs))) here)
numbers-any {X = X} test p from (y ∷ xs) (suc n) x e h g =
    by (test y) (numbers-any test p (from + 1) xs n x e h (ap p (omega arith) ∙ g))
  where
    by : (t : Bool) → list_any p (filter_map (λ (it : ℕ × X). if test it.1 then Some it.0 else None) (enumerate_from (from + 1) xs)) ≡ true →
        list_any p (cons_option (if t then Some from else None) (filter_map (λ (it : ℕ × X). if test it.1 then Some it.0 else None) (enumerate_from (from + 1) xs))) ≡ true
    by true later = or_right (p from) (list_any p (filter_map (λ (it : ℕ × X). if test it.1 then Some it.0 else None) (enumerate_from (from + 1) xs))) later
    by false later = later

-- an input that is an output of another algorithm has its name

input-named : (s : Scope) (raw : RawAlgorithm) (names : List (List ℕ)) (h : ℕ) (y : List ℕ) → s.handles ≡ names →
    list_any (nat_eq h) (filter_map (handle_number s) raw.inputs) ≡ true → slice_get names h ≡ Some y → is_among raw.inputs y ≡ true
input-named s raw names h y same there at =
    let given = given-from (handle_number s) raw.inputs h there in
    let numbered : number_of names given.it ≡ Some h = ap (λ ns. number_of ns given.it) (sym same) ∙ handle-numbered s given.it h given.gives in
    let alike : same_text y given.it ≡ true =
    nat_list_eq_equiv.symm y given.it ∙ ap (same_text given.it) (sym (get_or_from_slice_get names h y [] at)) ∙ number-same names given.it h numbered in
    any-at (same_text y) raw.inputs given.place given.it given.there alike

output-name : (raws : List Raw) (all : List Algorithm) (n : ℕ) (b : Algorithm) (i : ℕ) → AreNumberedFrom (length raws) all → slice_get all n ≡ Some b →
    i < length b.outputs → slice_get (map (λ (r : Raw). r.name) raws ++ flat_map output_names all) (b.first_output + i) ≡ slice_get (output_names b) i
output-name raws all n b i numbered e h =
    at-output output_names (λ a. length-map a.outputs (λ (o : Output). o.name)) (map (λ (r : Raw). r.name) raws) all n b i
    (subst (λ (k : ℕ). AreNumberedFrom k all) (sym (length-map raws (λ (r : Raw). r.name))) numbered) e h

takes-told : (raw : RawOptions) (s : Scope) (all : List Algorithm) (f : Forest) → AreBuilt s (length raw.raws) raw.algorithms all →
    s.handles ≡ handles_of (raw_names raw) (needs_of raw) → (n : ℕ) (a b : Algorithm) (one other : RawAlgorithm) (k l : ℕ) → slice_get all n ≡ Some b →
    IsBuilt s k one a → IsBuilt s l other b → TakesFrom a b → takes_from (need_of one) (need_of other) ≡ true
takes-told raw s all f built names n a b one other k l there of_one of_other taken =
    let h = taken.0 in
    let low : b.first_output ≤ h = taken.2 in
    let high : h < b.first_output + length b.outputs = taken.3 in
    let i = h - b.first_output in
    let place : b.first_output + i ≡ h = omega (arith, low) in
    let inside : i < length b.outputs = omega (arith, low, high) in
    let many : length (output_names b) ≡ length b.outputs = length-map b.outputs (λ (o : Output). o.name) in
    let (y, here) = got (output_names b) i (omega (arith, inside, many)) in
    let numbered = numbered-built s (length raw.raws) raw.algorithms all built in
    let at : slice_get (handles_of (raw_names raw) (needs_of raw)) h ≡ Some y =
    ap (λ ns. slice_get ns h) (sym (named-as-told raw s all f built)) ∙ ap (slice_get (handle_names (job_with raw all f))) (sym place)
    ∙ output-name raw.raws all n b i numbered there inside ∙ here in
    let listed : list_any (nat_eq h) (filter_map (handle_number s) one.inputs) ≡ true =
    ap (list_any (nat_eq h)) (sym (of_one.inputs ∙ handles-listed s one.inputs)) ∙ list_any-from_Contains nat_eq_equiv h a.inputs taken.1 in
    any-at (is_among one.inputs) (need_of other).outputs i y (ap (λ ns. slice_get ns i) (sym of_other.names) ∙ here)
    (input-named s one (handles_of (raw_names raw) (needs_of raw)) h y names listed at)

takes-leads : (raw : RawOptions) (s : Scope) (all : List Algorithm) (f : Forest) → AreBuilt s (length raw.raws) raw.algorithms all →
    s.handles ≡ handles_of (raw_names raw) (needs_of raw) → Leads (Takes (job_with raw all f)) (sources_of (needs_of raw))
takes-leads raw s all f built names m n taken p passes =
    let from = opened (slice_get all m) _ taken in
    let to = opened (slice_get all n) (TakesFrom from.it) from.holds in
    let one = built-at s (length raw.raws) raw.algorithms all m from.it built from.is in
    let other = built-at s (length raw.raws) raw.algorithms all n to.it built to.is in
    let told = takes-told raw s all f built names n from.it to.it one.raw other.raw one.first other.first to.is one.built other.built to.holds in
    let here : slice_get (needs_of raw) m ≡ Some (need_of one.raw) = slice_get-map need_of raw.algorithms m ∙ ap (option_map need_of) one.there in
    let there : slice_get (needs_of raw) n ≡ Some (need_of other.raw) = slice_get-map need_of raw.algorithms n ∙ ap (option_map need_of) other.there in
    ap (λ (o : Option Need). list_any p (option_map_or (λ (a : Need). numbers_where (takes_from a) (needs_of raw)) o [])) here
    ∙ numbers-any (takes_from (need_of one.raw)) p 0 (needs_of raw) n (need_of other.raw) there told (ap p (omega arith) ∙ passes)

-- no algorithm waits for itself

never-back : (needs : List Need) → data_cycle needs ≡ None → (n : ℕ) → n < length needs → leads_within (sources_of needs) (length needs) n n ≡ false
never-back needs e n h =
    let (a, there) = got needs n h in
    let none = unmapped (λ (it : ℕ × Need). DataCycle it.1.name) (find (λ (it : ℕ × Need). is_on_cycle (sources_of needs) (length needs) it.0) (enumerate_from 0 needs)) e in
    unfound (λ (it : ℕ × Need). is_on_cycle (sources_of needs) (length needs) it.0) (enumerate_from 0 needs) n (n, a) none
    (get-enumerated 0 needs n a there ∙ ap (λ (k : ℕ). Some (k, a)) (omega arith))

pub acyclic : (raw : RawOptions) (s : Scope) (all : List Algorithm) (f : Forest) → AreBuilt s (length raw.raws) raw.algorithms all →
    s.handles ≡ handles_of (raw_names raw) (needs_of raw) → data_cycle (needs_of raw) ≡ None → HasNoCycle (Takes (job_with raw all f))
acyclic raw s all f built names e =
    let many : length all ≡ length (needs_of raw) = as-many-built s (length raw.raws) raw.algorithms all built ∙ sym (length-map raw.algorithms need_of) in
    no_short-no_cycle (Takes (job_with raw all f)) (length (needs_of raw)) (inside many) short
  where
    inside : length all ≡ length (needs_of raw) → (m n : ℕ) → Takes (job_with raw all f) m n → n < length (needs_of raw)
    inside many m n taken =
        let from = opened (slice_get all m) _ taken in
        let to = opened (slice_get all n) (TakesFrom from.it) from.holds in
        let less = slice_get_within all n to.it to.is in omega (arith, less, many)

    short : (n : ℕ) (between : List ℕ) → n < length (needs_of raw) → length between < length (needs_of raw) →
        IsPath (Takes (job_with raw all f)) n between n → ⊥
    short n between inside less path =
        let leads =
        path-leads (Takes (job_with raw all f)) (sources_of (needs_of raw)) (takes-leads raw s all f built names) (length (needs_of raw)) n between n path less in
        let never = never-back (needs_of raw) e n inside in cc
