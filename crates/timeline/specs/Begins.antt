-- A list that begins with another one.
use Rattle.std.specs.Prelude.{◌≡◌, ℕ, List, length, take}

abbrev pub Begins : List ℕ → List ℕ → Type 0
Begins front whole = take (length front) whole ≡ front
