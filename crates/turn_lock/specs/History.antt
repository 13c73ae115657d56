-- The history of a value is the list of its items, which only grows. Who uses the lock has seen a prefix of it
-- (`IsPrefix seen history`: some rest makes `seen` the whole), and owns the positions, from 0, of the items added.
use Rattle.std.specs.Prelude.{◌≡◌, ◌⊎◌, ℕ, ◌-◌, ◌==◌, List, [], ◌∷◌, ◌++◌, length, nat_lt, count_by, if◌then◌else◌}
use Rattle.std.specs.List.{range_with_len}

module _ {I : Type 0} where
  -- one item was added, or none
  abbrev pub MayFollow : List I → List I → Type 0
  MayFollow before after = (after ≡ before) ⊎ ((item : I) × (after ≡ before ++ item ∷ []))

  -- the positions that the history has after and hadn't before
  abbrev pub added : List I → List I → List ℕ
  added before after = range_with_len (length before) (length after - length before)

  -- of two histories the one with more items, the first where they have equally many
  abbrev pub longer : List I → List I → List I
  longer xs ys = if nat_lt (length xs) (length ys) then ys else xs

  abbrev pub shorter : List I → List I → List I
  shorter xs ys = if nat_lt (length xs) (length ys) then xs else ys

-- how often the position stands among these
abbrev pub times : ℕ → List ℕ → ℕ
times position among = count_by (λ q. q == position) among

-- 1 where the position is below n, and else 0
abbrev pub below : ℕ → ℕ → ℕ
below position n = if nat_lt position n then 1 else 0
