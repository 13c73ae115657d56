-- Names of which none was refused: those of resources, of algorithms and sequences, and those that each algorithm lists.
use Rattle.std.proofs.Common.{codes, ◌≡◌, ℕ, ◌+◌, Bool, true, false, if◌then◌else◌, List, [], ◌∷◌, ◌++◌, map, Some, None, refl, ap, subst, ◌∙◌}
use Rattle.std.proofs.lemmas.List.{map-append}
use Rattle.std.specs.Cmp.Lexicographic.{nat_list_eq_equiv}
use Rattle.std.specs.List.{AllByRecursion, enumerate_from, list_any}
use Rattle.hive_model.specs.Same.{same_text}
use Rattle.hive_model.specs.Valid.{AreDistinctNames}
use Rattle.text_model.specs.JobNames.{Placed, algorithm_names, at_keys, at_numbers, names_refusal, refusal_of_algorithm, refusal_of_resources, repeat_of, resource_names, same_name, sequence_names}
use Rattle.text_model.specs.Names.{first_repeated, is_among, repeated_behind}
use Rattle.text_model.specs.RawOptions.{RawAlgorithm, RawOptions}
use Rattle.text_model.specs.Steps.{find_map}
use Rattle.text_model.specs.ValuePaths.{below, numbered}
use Rattle.text_model.specs.declared.job_refusal.JobRefusal.TheVariants.{Repeat, UnknownResource}
use Rattle.text_laws.proofs.Distinct.{distinct-by, distinct-mapped}
use Rattle.text_laws.proofs.Steps.{neither, unmapped}

-- names, each at its place

turned : (a b : Placed) → same_name a b ≡ same_name b a
turned a b = nat_list_eq_equiv.symm a.1 b.1

placed-once : (names : List Placed) → repeat_of names ≡ None → AreDistinctNames (map (λ (it : Placed). it.1) names)
placed-once names e =
    distinct-mapped same_text (λ (it : Placed). it.1) names
    (distinct-by same_name turned names (unmapped (λ (it : Placed). Repeat it.0) (first_repeated same_name names) e))

names-at : (place : ℕ → List ℕ) (n : ℕ) (names : List (List ℕ)) →
    map (λ (it : Placed). it.1) (map (λ (it : ℕ × List ℕ). (place it.0, it.1)) (enumerate_from n names)) ≡ names
names-at place n [] = refl
names-at place n (name ∷ names) = ap (λ ns. name ∷ ns) (names-at place (n + 1) names)

once-at : (place : ℕ → List ℕ) (names : List (List ℕ)) → repeat_of (map (λ (it : ℕ × List ℕ). (place it.0, it.1)) (enumerate_from 1 names)) ≡ None →
    AreDistinctNames names
once-at place names e =
    subst (λ (ns : List (List ℕ)). AreDistinctNames ns) (names-at place 1 names)
    (placed-once (map (λ (it : ℕ × List ℕ). (place it.0, it.1)) (enumerate_from 1 names)) e)

-- the resources that an algorithm lists
listed-once : (known : List (List ℕ)) (before xs : List Placed) → refusal_of_resources known before xs ≡ None → repeated_behind same_name before xs ≡ None
unfolding refusal_of_resources repeated_behind
listed-once known before [] e = refl
listed-once known before (it ∷ others) e =
    by (is_among known it.1) (list_any (same_name it) before) e (λ h. listed-once known (before ++ it ∷ []) others h)
  where
    by : (t u : Bool) →
        (if t then (if u then Some (Repeat it.0) else refusal_of_resources known (before ++ it ∷ []) others) else Some (UnknownResource it.0)) ≡ None →
        (refusal_of_resources known (before ++ it ∷ []) others ≡ None → repeated_behind same_name (before ++ it ∷ []) others ≡ None) →
        (if u then Some it else repeated_behind same_name (before ++ it ∷ []) others) ≡ None
    by true true h next = cc
    by true false h next = next h
    by false u h next = cc

-- what was looked at in an algorithm
pub record IsLooked (a : RawAlgorithm) : Type 0 where
  pub inputs : AreDistinctNames a.inputs
  pub resources : AreDistinctNames a.resources

looked : (known : List (List ℕ)) (number : ℕ) (a : RawAlgorithm) → refusal_of_algorithm known (number, a) ≡ None → IsLooked a
unfolding refusal_of_algorithm
looked known number a e =
    let path = numbered (codes "algorithm") number in
    let (one, two) = neither (repeat_of (at_numbers (below path (codes "inputs")) a.inputs)) _ e in
    let listed = listed-once known [] (at_numbers (below path (codes "resources")) a.resources) two in
    record {
      inputs = once-at (numbered (below path (codes "inputs"))) a.inputs one;
      resources =
          subst (λ (ns : List (List ℕ)). AreDistinctNames ns) (names-at (numbered (below path (codes "resources"))) 1 a.resources)
          (distinct-mapped same_text (λ (it : Placed). it.1) (at_numbers (below path (codes "resources")) a.resources)
          (distinct-by same_name turned (at_numbers (below path (codes "resources")) a.resources) listed));
    }

each-looked : (known : List (List ℕ)) (n : ℕ) (raws : List RawAlgorithm) → find_map (refusal_of_algorithm known) (enumerate_from n raws) ≡ None →
    AllByRecursion IsLooked raws
each-looked known n [] e = tt
each-looked known n (a ∷ raws) e =
    let (one, others) = neither (refusal_of_algorithm known (n, a)) (find_map (refusal_of_algorithm known) (enumerate_from (n + 1) raws)) e in
    (looked known n a one, each-looked known (n + 1) raws others)

-- names of which none was refused
pub record AreLooked (raw : RawOptions) : Type 0 where
  pub resources : AreDistinctNames (resource_names raw)
  pub members : AreDistinctNames (algorithm_names raw ++ sequence_names raw)
  pub algorithms : AllByRecursion IsLooked raw.algorithms

pub names-looked : (raw : RawOptions) → names_refusal raw ≡ None → AreLooked raw
unfolding names_refusal
names-looked raw e =
    let (resources, rest) = neither (repeat_of (at_keys (codes "resource") (resource_names raw))) _ e in
    let (members, others) = neither (repeat_of (at_keys (codes "algorithm") (algorithm_names raw) ++ at_keys (codes "sequence") (sequence_names raw))) _ rest in
    let (algorithms, none) = neither (find_map (refusal_of_algorithm (resource_names raw)) (enumerate_from 1 raw.algorithms)) _ others in
    let both = placed-once (at_keys (codes "algorithm") (algorithm_names raw) ++ at_keys (codes "sequence") (sequence_names raw)) members in
    record {
      resources = once-at (λ number. below (numbered (codes "resource") number) (codes "name")) (resource_names raw) resources;
      members =
          subst (λ (ns : List (List ℕ)). AreDistinctNames ns)
          (map-append (λ (it : Placed). it.1) (at_keys (codes "algorithm") (algorithm_names raw)) (at_keys (codes "sequence") (sequence_names raw))
          ∙ ap (λ ns. ns ++ map (λ (it : Placed). it.1) (at_keys (codes "sequence") (sequence_names raw)))
          (names-at (λ number. below (numbered (codes "algorithm") number) (codes "name")) 1 (algorithm_names raw))
          ∙ ap (λ ns. algorithm_names raw ++ ns) (names-at (λ number. below (numbered (codes "sequence") number) (codes "name")) 1 (sequence_names raw)))
          both;
      algorithms = each-looked (resource_names raw) 1 raw.algorithms algorithms;
    }
