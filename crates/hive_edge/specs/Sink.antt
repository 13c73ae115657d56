-- A sink has what it got, where it tells it, and texts that it admits. A write appends the front of a piece,
-- and what remains of an admitted text stays admitted.
use Rattle.std.specs.Prelude.{◌≡◌, ℕ, ◌<◌, ◌≤◌, List, ◌++◌, Option, Result, Ok, Err, length, take, drop}
use Rattle.std.specs.Io.KnownBytes.{Keeps, Appends}

-- `Ok n` appended the first n bytes of the piece, and an error appended nothing
abbrev pub Writes : {E : Type 0} → Option (List ℕ) → Option (List ℕ) → Result ℕ E → List ℕ → Type 0
Writes old new (Ok n) piece = Appends old new (take n piece)
Writes old new (Err e) piece = Keeps old new

-- a write takes one byte of the piece at least, and no more than it has
abbrev pub TakesSome : {E : Type 0} → Result ℕ E → List ℕ → Type 0
TakesSome (Ok n) piece = (0 < n) × (n ≤ length piece)
TakesSome (Err e) piece = Unit {0}

-- of an admitted text that begins with the piece, what a write left may still follow; an error leaves all admitted
abbrev pub LeavesRoom : {E : Type 0} → (List ℕ → Type 0) → (List ℕ → Type 0) → Result ℕ E → List ℕ → Type 0
LeavesRoom old new (Ok n) piece = (rest : List ℕ) → old (piece ++ rest) → new (drop n piece ++ rest)
LeavesRoom old new (Err e) piece = (text : List ℕ) → old text → new text

-- only a front of the piece was appended, and what is left of it may still follow
pub record BreaksOff (old new : Option (List ℕ)) (admits admits_now : List ℕ → Type 0) (piece : List ℕ) : Type 0 where
  pub front : List ℕ
  pub back : List ℕ
  pub whole : piece ≡ front ++ back
  pub bytes : Appends old new front
  pub room : (rest : List ℕ) → admits (piece ++ rest) → admits_now (back ++ rest)
