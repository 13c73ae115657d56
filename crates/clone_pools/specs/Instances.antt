-- What is kept of an instance, and the invariants of a pool and of all pools.
use Rattle.std.specs.Prelude.{◌≡◌, ℕ, ◌+◌, ◌<◌, ◌≤◌, List, [], length, All, Option, Some, None, slice_index}
use Rattle.hive_model.specs.Valid.{AreDistinctNumbers}
use Rattle.hive_model.specs.declared.limits.TheConstants.{MOST_UNITS}
use Rattle.clone_pools.specs.Loans.{Pool, units_out}
use Rattle.clone_pools.specs.Room.{HasRoom}
use Rattle.clone_pools.specs.declared.instance.Instance.{Instance}
use Rattle.clone_pools.specs.declared.instance.Instance.TheVariants.{Idle, Lent}
use Rattle.clone_pools.specs.declared.room.Room.{Room}

abbrev pub place_of : Instance → Option ℕ
place_of (Idle scratch) = None
place_of (Lent place) = Some place

-- an idle instance has room, and holds no product of the event before
abbrev pub IsKept : Room → Instance → Type 0
IsKept room (Idle scratch) = HasRoom room scratch × (scratch.inputs ≡ [])
IsKept room (Lent place) = Unit {0}

-- its resources are there, and none stands twice in its list
pub record IsPool (count : ℕ) (p : Pool) : Type 0 where
  pub within : All (λ r. r < count) p.resources
  pub differ : AreDistinctNumbers p.resources

-- of each resource, what is left and what is out are its units
pub record AreCounted (pools : List Pool) (units left : List ℕ) : Type 0 where
  pub pool : All (IsPool (length units)) pools
  pub lengths : length left ≡ length units
  pub few : (r : ℕ) → slice_index units r ≤ MOST_UNITS
  pub counts : (r : ℕ) → slice_index left r + units_out r pools ≡ slice_index units r
