-- Paths over any relation on numbers: cycles, and how deep a number stands.
use Rattle.std.specs.Prelude.{ℕ, ◌+◌, ◌≤◌, List, [], ◌∷◌, length}

-- from one number over those between to another, each related to the next
abbrev pub IsPath : (ℕ → ℕ → Type 0) → ℕ → List ℕ → ℕ → Type 0
IsPath R from [] to = R from to
IsPath R from (n ∷ between) to = R from n × IsPath R n between to

-- a path leads from the number back to it
abbrev pub IsOnCycle : (ℕ → ℕ → Type 0) → ℕ → Type 0
IsOnCycle R n = (between : List ℕ) × IsPath R n between n

abbrev pub HasNoCycle : (ℕ → ℕ → Type 0) → Type 0
HasNoCycle R = (n : ℕ) → IsOnCycle R n → ⊥

-- the numbers of a list follow one another from a number on, each related to the next
abbrev pub IsChain : (ℕ → ℕ → Type 0) → ℕ → List ℕ → Type 0
IsChain R from [] = Unit {0}
IsChain R from (n ∷ rest) = R from n × IsChain R n rest

-- the number is at most so deep: with those of any chain from it on, they are no more. So a number that is related to none has
-- the depth 1, and any other one more than the deepest number that it is related to.
abbrev pub IsAtMostDeep : (ℕ → ℕ → Type 0) → ℕ → ℕ → Type 0
IsAtMostDeep R depth n = (chain : List ℕ) → IsChain R n chain → length chain + 1 ≤ depth
