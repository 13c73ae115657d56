-- An algorithm can run if it is reached, has not run, and each of its inputs is in the event store. It is enabled if it can run
-- and is live: where a cut node is decided, what stands below it isn't begun any more.
use Rattle.std.specs.Prelude.{ℕ, Bool, false, not, ◌&&◌, is_some, List, Option, slice_get}
use Rattle.std.specs.List.{filter_map, list_all}
use Rattle.std.specs.Option.{option_flatten, option_map_or}
use Rattle.hive_model.specs.Algorithm.{Algorithm}
use Rattle.hive_model.specs.EventRecord.{EventRecord}
use Rattle.hive_model.specs.Job.{Job}
use Rattle.hive_model.specs.Live.{is_live}
use Rattle.hive_model.specs.Reached.{reached, is_reached}
use Rattle.hive_model.specs.Results.{Results, outcomes, outcome_at, store}
use Rattle.hive_model.specs.declared.outcome.Outcome.{Outcome}
use Rattle.hive_model.specs.declared.product.Product.{Product}
use Rattle.hive_model.specs.declared.sequence.Member.{Member}

-- the product in a place of the store, if it has one
abbrev pub product_in : List (Option Product) → ℕ → Option Product
product_in places handle = option_flatten (slice_get places handle)

abbrev pub all_there : List (Option Product) → List ℕ → Bool
all_there places inputs = list_all (λ h. is_some (product_in places h)) inputs

-- the products of the inputs that are there, in input order
abbrev pub inputs_in : List (Option Product) → List ℕ → List Product
inputs_in places inputs = filter_map (product_in places) inputs

-- where these members are reached, these places are the store, and this is the algorithm's outcome so far
unfoldable pub is_ready : List Member → List (Option Product) → ℕ → Algorithm → Option Outcome → Bool
is_ready members places number a it = is_reached members number && (not (is_some it) && all_there places a.inputs)

-- the same of the algorithm of that number, which a job may lack
abbrev pub is_ready_in : Job → List (Option Outcome) → List (Option Product) → ℕ → Bool
is_ready_in job ran places number =
    option_map_or (λ a. is_ready (reached job ran) places number a (outcome_at ran number)) (slice_get job.algorithms number) false

-- what a round asks
unfoldable pub can_run : Job → EventRecord → Results → ℕ → Bool
can_run job event ran number = is_ready_in job (outcomes ran) (store job event ran) number

-- the same over outcomes and a store, which are what the scheduler keeps of an event
unfoldable pub is_enabled : Job → List (Option Outcome) → List (Option Product) → ℕ → Bool
is_enabled job ran places number = is_ready_in job ran places number && is_live job ran number

unfoldable pub enabled : Job → EventRecord → Results → ℕ → Bool
enabled job event ran number = can_run job event ran number && is_live job (outcomes ran) number
