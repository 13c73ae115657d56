-- Places of numbers in an order, each in a turn of its own, where 0 is no place.
use Rattle.std.specs.Prelude.{◌≡◌, ℕ, ◌<◌, ◌≤◌, nat_lt, Bool, List, length, get_or, All}
use Rattle.std.specs.declared.alloc.Global.{Global}
use Rattle.std.specs.declared.vec.Vec.{Vec}
use Rattle.graph_parts.specs.Links.{links}

abbrev pub rank : List ℕ → ℕ → ℕ
rank ranks n = get_or ranks n 0

abbrev pub is_placed : List ℕ → ℕ → Bool
is_placed ranks n = nat_lt 0 (rank ranks n)

-- a number with a place leads to numbers with places before its own, and none has a place of a later turn
pub record AreRanked (next : List (Vec ℕ Global)) (ranks : List ℕ) (turn : ℕ) : Type 0 where
  pub size : length ranks ≡ length next
  pub so_far : (n : ℕ) → rank ranks n ≤ turn
  pub behind : (n : ℕ) → 0 < rank ranks n → All (λ t. (0 < rank ranks t) × (rank ranks t < rank ranks n)) (links next n)
