-- Who has what. An instance of an algorithm is free, or lent to the event at a place of the input. A re-entrant
-- algorithm has no instances, and its executions are counted. Each execution that is out has one unit of each
-- resource that its algorithm names.
use Rattle.std.specs.Prelude.{◌≡◌, ℕ, ◌+◌, ◌-◌, ◌≤◌, nat_eq, nat_lt, Bool, true, false, ◌&&◌, ◌||◌, if◌then◌else◌, is_some, is_none, List, map, length, replicate, Option, Some, None, slice_get, slice_index, slice_set}
use Rattle.std.specs.List.{count_by, list_all, list_any, sum_by}
use Rattle.std.specs.Option.{option_flatten, option_map_or}
use Rattle.hive_model.specs.Algorithm.{Algorithm}
use Rattle.hive_model.specs.Job.{Job}
use Rattle.hive_model.specs.declared.algorithm.Resource.{Resource}
use Rattle.clone_pools.specs.Room.{room_of}
use Rattle.clone_pools.specs.declared.room.Room.{Room}

pub record Pool : Type 0 where
  -- those of which an execution takes a unit
  pub resources : List ℕ
  -- what an execution needs
  pub room : Room
  -- by instance: the place of the event that has it
  pub lent : List (Option ℕ)
  -- the executions of a re-entrant algorithm that are out
  pub running : ℕ

pub record Pools : Type 0 where
  -- by algorithm
  pub pools : List Pool
  -- by resource, how many units there are
  pub units : List ℕ

-- nothing is lent

abbrev pub opening_pool : Algorithm → Pool
opening_pool a =
    record { resources = a.resources; room = room_of a; lent = replicate a.cardinality None; running = 0 }

abbrev pub opening : Job → Pools
opening job =
    record { pools = map opening_pool job.algorithms; units = map (λ (it : Resource). it.units) job.resources }

-- units

abbrev pub is_named : ℕ → List ℕ → Bool
is_named r resources = list_any (nat_eq r) resources

abbrev pub loans_of : Pool → ℕ
loans_of p = count_by is_some p.lent + p.running

abbrev pub units_in : ℕ → Pool → ℕ
units_in r p = if is_named r p.resources then loans_of p else 0

-- how many units of a resource are out
abbrev pub units_out : ℕ → List Pool → ℕ
units_out r pools = sum_by (units_in r) pools

abbrev pub has_unit_left : Pools → ℕ → Bool
has_unit_left it r = nat_lt (units_out r it.pools) (slice_index it.units r)

-- what may be lent

abbrev pub is_reentrant : Pool → Bool
is_reentrant p = nat_eq (length p.lent) 0

abbrev pub is_free : Pool → Bool
is_free p = is_reentrant p || list_any is_none p.lent

-- an instance is free, and each resource that the algorithm names has a unit left
abbrev pub pool_lends : Pools → Pool → Bool
pool_lends it p = list_all (has_unit_left it) p.resources && is_free p

unfoldable pub can_lend : Pools → ℕ → Bool
can_lend it number = option_map_or (pool_lends it) (slice_get it.pools number) false

-- that instance is free; a re-entrant algorithm takes none
abbrev pub IsFree : Pool → Option ℕ → Type 0
IsFree p (Some k) = slice_get p.lent k ≡ Some None
IsFree p None = is_reentrant p ≡ true

-- that instance is lent; without one, an execution of a re-entrant algorithm is out
abbrev pub is_out : Pool → Option ℕ → Bool
is_out p (Some k) = is_some (option_flatten (slice_get p.lent k))
is_out p None = nat_lt 0 p.running

unfoldable pub is_lent : Pools → ℕ → Option ℕ → Bool
is_lent it number clone = option_map_or (λ p. is_out p clone) (slice_get it.pools number) false

-- one loan more, and one less

abbrev pub with_loan : Pool → Option ℕ → ℕ → Pool
with_loan p (Some k) place = record p { lent = slice_set p.lent k (Some place) }
with_loan p None place = record p { running = p.running + 1 }

abbrev pub without_loan : Pool → Option ℕ → Pool
without_loan p (Some k) = record p { lent = slice_set p.lent k None }
without_loan p None = record p { running = p.running - 1 }

abbrev pub with_pool : Pools → ℕ → Pool → Pools
with_pool it number p = record it { pools = slice_set it.pools number p }

-- No instance is lent to two events, since `lent` has one place for it at most; and no resource has more units out
-- than there are.
abbrev pub IsExclusive : Pools → Type 0
IsExclusive it = (r : ℕ) → units_out r it.pools ≤ slice_index it.units r
