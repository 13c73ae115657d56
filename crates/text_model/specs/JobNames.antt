-- The first refusal of the names of raw options. No resource has the name of an earlier one, and no algorithm or sequence that
-- of an algorithm or sequence before it. An algorithm lists no input twice, and only resources that there are, none twice.
use Rattle.std.specs.Prelude.{codes, ℕ, Bool, if◌then◌else◌, List, [], ◌∷◌, ◌++◌, map, Option, Some, None, option_map}
use Rattle.std.specs.List.{enumerate_from, list_any}
use Rattle.std.specs.Option.{option_or}
use Rattle.hive_model.specs.Same.{same_text}
use Rattle.hive_model.specs.declared.algorithm.Resource.{Resource}
use Rattle.text_model.specs.Names.{first_repeated, is_among}
use Rattle.text_model.specs.RawOptions.{RawAlgorithm, RawOptions, RawSequence}
use Rattle.text_model.specs.Steps.{first_of, find_map}
use Rattle.text_model.specs.ValuePaths.{below, numbered}
use Rattle.text_model.specs.declared.job_refusal.JobRefusal.{JobRefusal}
use Rattle.text_model.specs.declared.job_refusal.JobRefusal.TheVariants.{Repeat, UnknownResource}

-- a name and the path at which it stands
abbrev pub Placed : Type 0
Placed = List ℕ × List ℕ

abbrev pub same_name : Placed → Placed → Bool
same_name a b = same_text a.1 b.1

-- the names of an array's tables, each at the path of its key
abbrev pub at_keys : List ℕ → List (List ℕ) → List Placed
at_keys array names = map (λ (it : ℕ × List ℕ). (below (numbered array it.0) (codes "name"), it.1)) (enumerate_from 1 names)

-- the elements of an array, each at its path
abbrev pub at_numbers : List ℕ → List (List ℕ) → List Placed
at_numbers path names = map (λ (it : ℕ × List ℕ). (numbered path it.0, it.1)) (enumerate_from 1 names)

abbrev pub repeat_of : List Placed → Option JobRefusal
repeat_of names = option_map (λ (it : Placed). Repeat it.0) (first_repeated same_name names)

abbrev pub resource_names : RawOptions → List (List ℕ)
resource_names raw = map (λ (r : Resource). r.name) raw.resources

abbrev pub algorithm_names : RawOptions → List (List ℕ)
algorithm_names raw = map (λ (a : RawAlgorithm). a.name) raw.algorithms

abbrev pub sequence_names : RawOptions → List (List ℕ)
sequence_names raw = map (λ (q : RawSequence). q.name) raw.sequences

-- the resources that an algorithm lists behind some others, each first for being known and then for being new
unfoldable pub refusal_of_resources : List (List ℕ) → List Placed → List Placed → Option JobRefusal
refusal_of_resources known before [] = None
refusal_of_resources known before (it ∷ others) =
    if is_among known it.1
    then (if list_any (same_name it) before then Some (Repeat it.0) else refusal_of_resources known (before ++ it ∷ []) others)
    else Some (UnknownResource it.0)

unfoldable pub refusal_of_algorithm : List (List ℕ) → ℕ × RawAlgorithm → Option JobRefusal
refusal_of_algorithm known (number, a) =
    let path = numbered (codes "algorithm") number in
    option_or (repeat_of (at_numbers (below path (codes "inputs")) a.inputs))
    (refusal_of_resources known [] (at_numbers (below path (codes "resources")) a.resources))

unfoldable pub names_refusal : RawOptions → Option JobRefusal
names_refusal raw = first_of (
    repeat_of (at_keys (codes "resource") (resource_names raw))
    ∷ repeat_of (at_keys (codes "algorithm") (algorithm_names raw) ++ at_keys (codes "sequence") (sequence_names raw))
    ∷ find_map (refusal_of_algorithm (resource_names raw)) (enumerate_from 1 raw.algorithms)
    ∷ [])
