-- The results of an event so far: for each algorithm nothing, or its execution. A list that ends early says of the algorithms
-- after its end that they have not run. Results give the event store, which has a place for each handle: a raw handle holds the
-- record's cell, and an output what its algorithm left there, if it was accepted or rejected.
use Rattle.std.specs.Prelude.{ℕ, zero, suc, List, [], ◌∷◌, ◌++◌, length, map, replicate, Option, Some, None, slice_get}
use Rattle.std.specs.List.{enumerate_from, flat_map}
use Rattle.std.specs.Option.{option_flatten, option_map, option_map_or}
use Rattle.hive_model.specs.Algorithm.{Algorithm}
use Rattle.hive_model.specs.EventRecord.{EventRecord}
use Rattle.hive_model.specs.Execution.{Execution}
use Rattle.hive_model.specs.Job.{Job}
use Rattle.hive_model.specs.declared.outcome.Outcome.{Outcome}
use Rattle.hive_model.specs.declared.outcome.Outcome.TheVariants.{Accepted, Rejected, Failed}
use Rattle.hive_model.specs.declared.product.Product.{Product}

abbrev pub Results : Type 0
Results = List (Option Execution)

-- no algorithm has run
abbrev pub none_ran : Job → Results
none_ran job = replicate (length job.algorithms) None

-- the execution of the algorithm of that number, if it has run
abbrev pub ran_at : Results → ℕ → Option Execution
ran_at ran number = option_flatten (slice_get ran number)

-- the outcomes alone, which decide what is decided and reached

abbrev pub outcome_of : Option Execution → Option Outcome
outcome_of it = option_map (λ x. x.outcome) it

abbrev pub outcomes : Results → List (Option Outcome)
outcomes ran = map outcome_of ran

abbrev pub outcome_at : List (Option Outcome) → ℕ → Option Outcome
outcome_at ran number = option_flatten (slice_get ran number)

-- the event store

-- n places, the first of them as these cells are, and the others empty
abbrev pub fitted : ℕ → List (Option Product) → List (Option Product)
fitted zero cells = []
fitted (suc n) [] = None ∷ fitted n []
fitted (suc n) (cell ∷ cells) = cell ∷ fitted n cells

-- of a failed algorithm nothing is kept
abbrev pub kept_by : Outcome → List Product → List Product
kept_by Accepted outputs = outputs
kept_by Rejected outputs = outputs
kept_by (Failed at fault) outputs = []

abbrev pub kept : Option Execution → List Product
kept it = option_map_or (λ x. kept_by x.outcome x.outputs) it []

-- the places of an algorithm's outputs
abbrev pub left : Algorithm → Option Execution → List (Option Product)
left a it = fitted (length a.outputs) (map Some (kept it))

abbrev pub left_at : Results → ℕ × Algorithm → List (Option Product)
left_at ran (number, a) = left a (ran_at ran number)

-- the places of all outputs, algorithm by algorithm
abbrev pub left_by : List Algorithm → Results → List (Option Product)
left_by algorithms ran = flat_map (left_at ran) (enumerate_from 0 algorithms)

unfoldable pub store : Job → EventRecord → Results → List (Option Product)
store job event ran = fitted (length job.raws) event.cells ++ left_by job.algorithms ran
