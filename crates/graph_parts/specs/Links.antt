-- Where numbers lead on to, as a list of vectors says it. Each number that stands in one is the number of one of them.
use Rattle.std.specs.Prelude.{ℕ, ◌<◌, Bool, false, List, [], length, get_or, slice_get, All}
use Rattle.std.specs.declared.alloc.Global.{Global}
use Rattle.std.specs.List.{list_any}
use Rattle.std.specs.Option.{option_map_or}
use Rattle.std.specs.declared.vec.Vec.{Vec}

abbrev pub links : List (Vec ℕ Global) → ℕ → List ℕ
links next n = option_map_or (λ (v : Vec ℕ Global). v.items) (slice_get next n) []

abbrev pub AreWithin : List (Vec ℕ Global) → Type 0
AreWithin next = All (λ (v : Vec ℕ Global). All (λ t. t < length next) v.items) next

-- one of the numbers has its flag set
abbrev pub deeper_by : List Bool → List ℕ → Bool
deeper_by flags below = list_any (λ t. get_or flags t false) below
