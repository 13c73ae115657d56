-- The first algorithm on a cycle, by number and by name.
use Rattle.std.proofs.Common.{◌≡◌, ℕ, zero, suc, ◌+◌, ◌<◌, ◌≤◌, nat_eq, ◌||◌, Bool, true, false, cond, List, [], ◌∷◌, length, find, slice_get, Option, Some, None, option_map, refl, ap, sym, subst, ◌∙◌, ⊎_elim, arith, Global}
use Rattle.std.proofs.lemmas.Bool.{cases_lt}
use Rattle.std.proofs.lemmas.Option.{same_Some, slice_get_past}
use Rattle.std.specs.List.{enumerate_from, list_any, range_with_len}
use Rattle.std.specs.Option.{option_map_or}
use Rattle.std.specs.declared.vec.Vec.{Vec}
use Rattle.graph_parts.specs.Links.{links}
use Rattle.text_model.specs.Producers.{Need, data_cycle, sources_of, takes_from}
use Rattle.text_model.specs.Names.{numbers_where}
use Rattle.text_model.specs.Walks.{is_on_cycle, leads_within}
use Rattle.text_model.specs.declared.graph_refusal.GraphRefusal.{GraphRefusal}
use Rattle.text_model.specs.declared.graph_refusal.GraphRefusal.TheVariants.{DataCycle}
use Rattle.producer_graph.proofs.TakingFrom.{SameTests, same-leads}
use Rattle.producer_graph.specs.Acyclic.{NeverWaits}
use Rattle.producer_graph.specs.Cycle.{name_at}

found-in-both : (p : ℕ → Bool) (from : ℕ) (needs : List Need) (n : ℕ) → find p (range_with_len from (length needs)) ≡ Some n →
    (i : ℕ) × (n ≡ from + i) × (find (λ (it : ℕ × Need). p it.0) (enumerate_from from needs) ≡ option_map (λ (a : Need). (n, a)) (slice_get needs i))
found-in-both p from [] n e = cc
found-in-both p from (a ∷ needs) n e = by (p from) refl e (λ later. found-in-both p (from + 1) needs n later)
  where
    by : (b : Bool) → p from ≡ b → cond b (Some from) (find p (range_with_len (from + 1) (length needs))) ≡ Some n →
        (find p (range_with_len (from + 1) (length needs)) ≡ Some n →
        (i : ℕ) × (n ≡ from + 1 + i) × (find (λ (it : ℕ × Need). p it.0) (enumerate_from (from + 1) needs) ≡ option_map (λ (a : Need). (n, a)) (slice_get needs i))) →
        (i : ℕ) × (n ≡ from + i) × (cond (p from) (Some (from, a)) (find (λ (it : ℕ × Need). p it.0) (enumerate_from (from + 1) needs))
        ≡ option_map (λ (b : Need). (n, b)) (slice_get (a ∷ needs) i))
    by true here it later =
        let same : from ≡ n = same_Some from n it in
        (0, omega arith, rw here (ap (λ (m : ℕ). Some (m, a)) same))
    by false here it later =
        let rest = later it in
        let place = rest.1 in
        (suc rest.0, omega (arith, place), rw here rest.2)

found-in-none : (p : ℕ → Bool) (from : ℕ) (needs : List Need) → find p (range_with_len from (length needs)) ≡ None →
    find (λ (it : ℕ × Need). p it.0) (enumerate_from from needs) ≡ None
found-in-none p from [] e = refl
found-in-none p from (a ∷ needs) e = by (p from) refl e (λ later. found-in-none p (from + 1) needs later)
  where
    by : (b : Bool) → p from ≡ b → cond b (Some from) (find p (range_with_len (from + 1) (length needs))) ≡ None →
        (find p (range_with_len (from + 1) (length needs)) ≡ None → find (λ (it : ℕ × Need). p it.0) (enumerate_from (from + 1) needs) ≡ None) →
        cond (p from) (Some (from, a)) (find (λ (it : ℕ × Need). p it.0) (enumerate_from (from + 1) needs)) ≡ None
    by true here it later = cc
    by false here it later = rw here (later it)

same-cycles : (needs : List Need) (sources : List (Vec ℕ Global)) → length sources ≡ length needs → SameTests (links sources) (sources_of needs) →
    is_on_cycle (links sources) (length sources) ≡ is_on_cycle (sources_of needs) (length needs)
same-cycles needs sources size same =
    λ i n. (same-leads (links sources) (sources_of needs) same (length sources) n n ∙ ap (λ count. is_on_cycle (sources_of needs) count n) size) i

pub cycle-none : (needs : List Need) (sources : List (Vec ℕ Global)) → length sources ≡ length needs → SameTests (links sources) (sources_of needs) →
    None ≡ find (is_on_cycle (links sources) (length sources)) (range_with_len 0 (length sources)) → data_cycle needs ≡ None
cycle-none needs sources size same e =
    let none : find (is_on_cycle (sources_of needs) (length needs)) (range_with_len 0 (length needs)) ≡ None =
    sym (e ∙ rw (same-cycles needs sources size same, size) refl) in
    ap (option_map (λ (it : ℕ × Need). DataCycle it.1.name)) (found-in-none (is_on_cycle (sources_of needs) (length needs)) 0 needs none)

pub cycle-some : (needs : List Need) (sources : List (Vec ℕ Global)) (n : ℕ) → length sources ≡ length needs → SameTests (links sources) (sources_of needs) →
    n < length needs →
    Some n ≡ find (is_on_cycle (links sources) (length sources)) (range_with_len 0 (length sources)) → data_cycle needs ≡ Some (DataCycle (name_at needs n))
cycle-some needs sources n size same less e =
    let some : find (is_on_cycle (sources_of needs) (length needs)) (range_with_len 0 (length needs)) ≡ Some n =
    sym (e ∙ rw (same-cycles needs sources size same, size) refl) in
    let it = found-in-both (is_on_cycle (sources_of needs) (length needs)) 0 needs n some in
    let eq = it.1 in
    let place : it.0 ≡ n = omega (arith, eq) in
    ap (option_map (λ (it : ℕ × Need). DataCycle it.1.name)) (it.2 ∙ ap (λ i. option_map (λ (a : Need). (n, a)) (slice_get needs i)) place)
    ∙ by needs n less
  where
    by : (them : List Need) (k : ℕ) → k < length them →
        option_map (λ (it : ℕ × Need). DataCycle it.1.name) (option_map (λ (a : Need). (n, a)) (slice_get them k)) ≡ Some (DataCycle (name_at them k))
    by [] k h = absurd (omega arith)
    by (a ∷ them) zero h = refl
    by (a ∷ them) (suc k) h = by them k (omega arith)

-- what is no algorithm leads nowhere
past-leads : (needs : List Need) (steps n : ℕ) → length needs ≤ n → leads_within (sources_of needs) steps n n ≡ false
unfolding leads_within
past-leads needs zero n past = refl
past-leads needs (suc steps) n past =
    ap (λ (o : Option Need). list_any (λ m. nat_eq m n || leads_within (sources_of needs) steps m n) (option_map_or (λ (a : Need). numbers_where (takes_from a) needs) o []))
    (slice_get_past needs n past)

pub never-waits : (needs : List Need) (sources : List (Vec ℕ Global)) → length sources ≡ length needs → SameTests (links sources) (sources_of needs) →
    ((steps n : ℕ) → n < length sources → leads_within (links sources) steps n n ≡ false) → NeverWaits needs
never-waits needs sources size same never steps n =
    ⊎_elim (λ (inside : n < length needs). sym (same-leads (links sources) (sources_of needs) same steps n n) ∙ never steps n (omega arith))
    (λ (past : length needs ≤ n). past-leads needs steps n past) (cases_lt n (length needs))
