-- The pools against the events in the slots. Each claim that is outstanding has its instance on loan, or is
-- one of the executions that are out where its algorithm is re-entrant; and nothing else is on loan.
use Rattle.std.specs.Prelude.{◌≡◌, ℕ, Bool, false, if◌then◌else◌, is_none, List, length, map, Option, Some, slice_get}
use Rattle.std.specs.List.{count_by}
use Rattle.std.specs.Option.{option_map_or}
use Rattle.clone_pools.specs.Loans.{Pool, Pools, is_out, units_out as units_lent}
use Rattle.clone_pools.specs.Room.{room_of}
use Rattle.hive_model.specs.Algorithm.{Algorithm}
use Rattle.hive_model.specs.Job.{Job}
use Rattle.hive_model.specs.Lending.{has_clone, units_out}
use Rattle.hive_model.specs.Machine.{Busy, claim_in}
use Rattle.hive_model.specs.declared.algorithm.Resource.{Resource}

-- the event in the slot has the algorithm claimed without an instance
abbrev pub has_none : ℕ → Option Busy → Bool
has_none number slot = option_map_or (λ c. is_none c.clone) (claim_in number slot) false

-- the pool is the algorithm's, and lends what the claims of that algorithm have
pub record IsPoolOf (slots : List (Option Busy)) (number : ℕ) (a : Algorithm) (p : Pool) : Type 0 where
  pub resources : p.resources ≡ a.resources
  pub room : p.room ≡ room_of a
  pub instances : length p.lent ≡ a.cardinality
  -- an instance that is lent is that of one claim, and any other that of none
  pub lent : (k : ℕ) → count_by (has_clone number k) slots ≡ (if is_out p (Some k) then 1 else 0)
  pub running : p.running ≡ count_by (has_none number) slots

pub record ArePoolsOf (job : Job) (slots : List (Option Busy)) (it : Pools) : Type 0 where
  pub as_many : length it.pools ≡ length job.algorithms
  pub pool : (number : ℕ) (a : Algorithm) (p : Pool) → slice_get job.algorithms number ≡ Some a
      → slice_get it.pools number ≡ Some p → IsPoolOf slots number a p
  pub units : it.units ≡ map (λ (r : Resource). r.units) job.resources
  pub out : (r : ℕ) → units_lent r it.pools ≡ units_out r job slots
