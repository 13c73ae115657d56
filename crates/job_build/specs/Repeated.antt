-- Names at their paths, one after another: the first that was there before, and the first resource that isn't known or was there
-- before.
use Rattle.std.specs.Prelude.{codes, ℕ, Bool, if◌then◌else◌, List, [], ◌∷◌, ◌++◌, map, Option, Some, None}
use Rattle.std.specs.List.{enumerate_from}
use Rattle.text_model.specs.JobNames.{Placed}
use Rattle.text_model.specs.Names.{is_among}
use Rattle.text_model.specs.ValuePaths.{below, numbered}
use Rattle.text_model.specs.declared.job_refusal.JobRefusal.{JobRefusal}
use Rattle.text_model.specs.declared.job_refusal.JobRefusal.TheVariants.{Repeat, UnknownResource}

-- the path of an element of an array, or of the name of a table of it
abbrev pub place_of : Bool → List ℕ → ℕ → List ℕ
place_of keyed array number = if keyed then below (numbered array number) (codes "name") else numbered array number

abbrev pub placed : Bool → List ℕ → ℕ → List (List ℕ) → List Placed
placed keyed array number names = map (λ (it : ℕ × List ℕ). (place_of keyed array it.0, it.1)) (enumerate_from number names)

unfoldable pub repeat_behind : List (List ℕ) → List Placed → Option JobRefusal
repeat_behind before [] = None
repeat_behind before (it ∷ others) =
    if is_among before it.1 then Some (Repeat it.0) else repeat_behind (before ++ it.1 ∷ []) others

unfoldable pub resources_behind : List (List ℕ) → List (List ℕ) → List Placed → Option JobRefusal
resources_behind known before [] = None
resources_behind known before (it ∷ others) =
    if is_among known it.1
    then (if is_among before it.1 then Some (Repeat it.0) else resources_behind known (before ++ it.1 ∷ []) others)
    else Some (UnknownResource it.0)
