-- The pieces of a text between separators: one more than there are separators, and some of them perhaps empty.
use Rattle.std.specs.Prelude.{ℕ, ◌==◌, if◌then◌else◌, List, [], ◌∷◌}

-- a byte before the first piece
abbrev pub onto : ℕ → List (List ℕ) → List (List ℕ)
onto b [] = (b ∷ []) ∷ []
onto b (piece ∷ pieces) = (b ∷ piece) ∷ pieces

unfoldable pub cut : ℕ → List ℕ → List (List ℕ)
cut separator [] = [] ∷ []
cut separator (b ∷ bs) = if b == separator then [] ∷ cut separator bs else onto b (cut separator bs)
