-- Instances and units on loan. An outstanding claim has its instance, and one unit of each resource that its algorithm names.
-- Lending is exclusive where no two claims have one instance, and no resource has more claims than units.
use Rattle.std.specs.Prelude.{ℕ, ◌≤◌, nat_eq, nat_lt, Bool, false, not, ◌&&◌, is_some, List, Option, Some, None, slice_get}
use Rattle.std.specs.List.{count_by, enumerate_from, list_all, list_any, sum_by}
use Rattle.std.specs.Option.{option_eq, option_map_or}
use Rattle.hive_model.specs.Algorithm.{Algorithm}
use Rattle.hive_model.specs.Job.{Job}
use Rattle.hive_model.specs.Machine.{Machine, Busy, claim_at, claim_in}
use Rattle.hive_model.specs.declared.algorithm.Resource.{Resource}

-- the event in the slot has instance k of the algorithm
abbrev pub has_clone : ℕ → ℕ → Option Busy → Bool
has_clone number k slot = option_map_or (λ c. option_eq nat_eq c.clone (Some k)) (claim_in number slot) false

-- a re-entrant algorithm needs no instance, and any other one that is free
abbrev pub is_free : List (Option Busy) → ℕ → Algorithm → Option ℕ → Bool
is_free slots number a None = nat_eq a.cardinality 0
is_free slots number a (Some k) = nat_lt k a.cardinality && not (list_any (has_clone number k) slots)

abbrev pub names_resource : ℕ → Algorithm → Bool
names_resource r a = list_any (nat_eq r) a.resources

-- the algorithm is claimed there and names the resource
abbrev pub has_unit : ℕ → Busy → ℕ × Algorithm → Bool
has_unit r b (number, a) = is_some (claim_at b number) && names_resource r a

-- how many units of a resource an event has
abbrev pub units_in : ℕ → Job → Option Busy → ℕ
units_in r job slot = option_map_or (λ b. count_by (has_unit r b) (enumerate_from 0 job.algorithms)) slot 0

abbrev pub units_out : ℕ → Job → List (Option Busy) → ℕ
units_out r job slots = sum_by (units_in r job) slots

abbrev pub units_of : ℕ → Job → ℕ
units_of r job = option_map_or (λ (it : Resource). it.units) (slice_get job.resources r) 0

-- each resource that the algorithm names has a unit left
abbrev pub has_units : Job → List (Option Busy) → Algorithm → Bool
has_units job slots a = list_all (λ r. nat_lt (units_out r job slots) (units_of r job)) a.resources

pub record IsExclusive (job : Job) (m : Machine) : Type 0 where
  pub clones : (number k : ℕ) → count_by (has_clone number k) m.slots ≤ 1
  pub units : (r : ℕ) → units_out r job m.slots ≤ units_of r job
