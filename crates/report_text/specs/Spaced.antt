-- Words of a line after its first: each with a space before it.
use Rattle.std.specs.Prelude.{ℕ, List, [], ◌∷◌, ◌++◌}
use Rattle.text_model.specs.declared.bytes.TheConstants.{SPACE}

abbrev pub spaced : List (List ℕ) → List ℕ
spaced [] = []
spaced (w ∷ words) = SPACE ∷ (w ++ spaced words)
