-- The path of a value in options: the keys that lead to it, and the numbers, from 1, of tables and elements, with dots between. The
-- keys of the top level are paths by themselves, and its own path is `options`.
use Rattle.std.specs.Prelude.{codes, decimal, ℕ, List, [], ◌∷◌, ◌++◌}
use Rattle.text_model.specs.declared.bytes.TheConstants.{DOT}

-- a key or a number behind a path; the top level's keys stand behind none
abbrev pub below : List ℕ → List ℕ → List ℕ
below [] part = part
below (b ∷ path) part = (b ∷ path) ++ DOT ∷ part

abbrev pub numbered : List ℕ → ℕ → List ℕ
numbered path number = below path (decimal number)

-- the path of the table whose keys stand behind a path
abbrev pub table_path : List ℕ → List ℕ
table_path [] = codes "options"
table_path (b ∷ path) = b ∷ path
