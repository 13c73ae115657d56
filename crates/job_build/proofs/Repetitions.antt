-- The first repeated name by the names alone.
use Rattle.std.proofs.Common.{codes, ◌≡◌, ℕ, ◌+◌, Bool, true, false, if◌then◌else◌, List, [], ◌∷◌, ◌++◌, map, Option, Some, option_map, Result, refl, ap, sym, subst, ◌∙◌, append_assoc, append-nil}
use Rattle.std.specs.List.{list_any}
use Rattle.std.specs.Option.{option_or}
use Rattle.hive_model.specs.Same.{same_text}
use Rattle.text_model.specs.JobNames.{Placed, algorithm_names, at_keys, refusal_of_algorithm, refusal_of_resources, repeat_of, same_name, sequence_names}
use Rattle.text_model.specs.RawOptions.{RawAlgorithm, RawOptions}
use Rattle.text_model.specs.ValuePaths.{below, numbered}
use Rattle.text_model.specs.Names.{is_among, repeated_behind}
use Rattle.text_model.specs.declared.job_refusal.JobRefusal.{JobRefusal}
use Rattle.text_model.specs.declared.job_refusal.JobRefusal.TheVariants.{Repeat, UnknownResource}
use Rattle.job_build.specs.Found.{Finds}
use Rattle.job_build.specs.Repeated.{placed, repeat_behind, resources_behind}
use Rattle.job_build.proofs.Lists.{list_any-map, map-push}

abbrev pub named : List Placed → List (List ℕ)
named before = map (λ (it : Placed). it.1) before

among : (it : Placed) (before : List Placed) → list_any (same_name it) before ≡ is_among (named before) it.1
among it before = sym (list_any-map (same_text it.1) (λ (p : Placed). p.1) before)

pub repeated-named : (before xs : List Placed) →
    option_map (λ (it : Placed). Repeat it.0) (repeated_behind same_name before xs) ≡ repeat_behind (named before) xs
unfolding repeated_behind repeat_behind
repeated-named before [] = refl
repeated-named before (x ∷ xs) =
    rw (among x before) (by (is_among (named before) x.1) (repeated-named (before ++ x ∷ []) xs ∙ ap (λ b. repeat_behind b xs) (map-push (λ (p : Placed). p.1) before x)))
  where
    by : (t : Bool) → option_map (λ (it : Placed). Repeat it.0) (repeated_behind same_name (before ++ x ∷ []) xs) ≡ repeat_behind (named before ++ x.1 ∷ []) xs →
        option_map (λ (it : Placed). Repeat it.0) (if t then Some x else repeated_behind same_name (before ++ x ∷ []) xs)
        ≡ (if t then Some (Repeat x.0) else repeat_behind (named before ++ x.1 ∷ []) xs)
    by true h = refl
    by false h = h

pub repeat_is : (xs : List Placed) → repeat_of xs ≡ repeat_behind [] xs
repeat_is xs = repeated-named [] xs

pub repeat-append : (before : List (List ℕ)) (xs ys : List Placed) →
    repeat_behind before (xs ++ ys) ≡ option_or (repeat_behind before xs) (repeat_behind (before ++ named xs) ys)
unfolding repeat_behind
repeat-append before [] ys = rw append-nil refl
repeat-append before (x ∷ xs) ys = by (is_among before x.1)
    (repeat-append (before ++ x.1 ∷ []) xs ys
    ∙ ap (λ b. option_or (repeat_behind (before ++ x.1 ∷ []) xs) (repeat_behind b ys)) (append_assoc before (x.1 ∷ []) (named xs)))
  where
    by : (t : Bool) →
        repeat_behind (before ++ x.1 ∷ []) (xs ++ ys) ≡ option_or (repeat_behind (before ++ x.1 ∷ []) xs) (repeat_behind (before ++ x.1 ∷ named xs) ys) →
        (if t then Some (Repeat x.0) else repeat_behind (before ++ x.1 ∷ []) (xs ++ ys))
        ≡ option_or (if t then Some (Repeat x.0) else repeat_behind (before ++ x.1 ∷ []) xs) (repeat_behind (before ++ x.1 ∷ named xs) ys)
    by true h = refl
    by false h = h

pub resources-named : (known : List (List ℕ)) (before xs : List Placed) →
    refusal_of_resources known before xs ≡ resources_behind known (named before) xs
unfolding refusal_of_resources resources_behind
resources-named known before [] = refl
resources-named known before (x ∷ xs) =
    rw (among x before) (by (is_among known x.1) (is_among (named before) x.1)
    (resources-named known (before ++ x ∷ []) xs ∙ ap (λ b. resources_behind known b xs) (map-push (λ (p : Placed). p.1) before x)))
  where
    by : (t u : Bool) → refusal_of_resources known (before ++ x ∷ []) xs ≡ resources_behind known (named before ++ x.1 ∷ []) xs →
        (if t then (if u then Some (Repeat x.0) else refusal_of_resources known (before ++ x ∷ []) xs) else Some (UnknownResource x.0))
        ≡ (if t then (if u then Some (Repeat x.0) else resources_behind known (named before ++ x.1 ∷ []) xs) else Some (UnknownResource x.0))
    by true true h = refl
    by true false h = h
    by false u h = refl

both_same : {B : Type 0} (a b c d : Option B) → a ≡ b → c ≡ d → option_or a c ≡ option_or b d
both_same a b c d e f = rw (e, f) refl

-- the names of placed names
pub named-placed : (keyed : Bool) (place : List ℕ) (n : ℕ) (names : List (List ℕ)) → named (placed keyed place n names) ≡ names
named-placed keyed place n [] = refl
named-placed keyed place n (name ∷ names) = ap (λ ns. name ∷ ns) (named-placed keyed place (n + 1) names)

-- those of the elements or tables of two arrays
pub repeat_both : (keyed : Bool) (one other : List ℕ) (xs ys : List (List ℕ)) →
    repeat_of (placed keyed one 1 xs ++ placed keyed other 1 ys)
    ≡ option_or (repeat_behind [] (placed keyed one 1 xs)) (repeat_behind xs (placed keyed other 1 ys))
repeat_both keyed one other xs ys =
    repeat_is (placed keyed one 1 xs ++ placed keyed other 1 ys) ∙ repeat-append [] (placed keyed one 1 xs) (placed keyed other 1 ys)
    ∙ ap (λ b. option_or (repeat_behind [] (placed keyed one 1 xs)) (repeat_behind b (placed keyed other 1 ys))) (named-placed keyed one 1 xs)

-- those of the algorithms and sequences
pub members_listed : {A : Type 0} (raw : RawOptions) (ones others : List (List ℕ)) (r : Result A JobRefusal) → ones ≡ algorithm_names raw →
    others ≡ sequence_names raw →
    Finds r (option_or (repeat_behind [] (placed true (codes "algorithm") 1 ones)) (repeat_behind ones (placed true (codes "sequence") 1 others))) →
    Finds r (repeat_of (at_keys (codes "algorithm") (algorithm_names raw) ++ at_keys (codes "sequence") (sequence_names raw)))
members_listed raw ones others r e f h =
    subst (λ (o : Option JobRefusal). Finds r o)
    (ap (λ ns. option_or (repeat_behind [] (placed true (codes "algorithm") 1 ns)) (repeat_behind ns (placed true (codes "sequence") 1 others))) e
    ∙ ap (λ ns. option_or (repeat_behind [] (placed true (codes "algorithm") 1 (algorithm_names raw)))
    (repeat_behind (algorithm_names raw) (placed true (codes "sequence") 1 ns))) f
    ∙ sym (repeat_both true (codes "algorithm") (codes "sequence") (algorithm_names raw) (sequence_names raw))) h

pub ruleset repeats = (repeat_is, resources-named)

-- what is looked at in an algorithm
pub algorithm_lists : (known : List (List ℕ)) (number : ℕ) (a : RawAlgorithm) →
    refusal_of_algorithm known (number, a)
    ≡ option_or (repeat_behind [] (placed false (below (numbered (codes "algorithm") number) (codes "inputs")) 1 a.inputs))
    (resources_behind known [] (placed false (below (numbered (codes "algorithm") number) (codes "resources")) 1 a.resources))
unfolding refusal_of_algorithm
algorithm_lists known number a =
    let inputs = placed false (below (numbered (codes "algorithm") number) (codes "inputs")) 1 a.inputs in
    let resources = placed false (below (numbered (codes "algorithm") number) (codes "resources")) 1 a.resources in
    both_same (repeat_of inputs) (repeat_behind [] inputs) (refusal_of_resources known [] resources) (resources_behind known [] resources)
    (repeat_is inputs) (resources-named known [] resources)
