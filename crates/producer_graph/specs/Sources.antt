-- The algorithms that an algorithm takes from, by the producers of its handles.
use Rattle.std.specs.Prelude.{ℕ, List, filter_map, get_or, Option, None}

abbrev pub producers_in : List (Option ℕ) → List ℕ → List ℕ
producers_in producers handles = filter_map (λ h. get_or producers h None) handles
