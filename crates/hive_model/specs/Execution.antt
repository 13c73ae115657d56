-- An execution computes an algorithm's outputs in written order, each over the inputs and the outputs above it, and then its
-- filter over all of them. Without a filter, or where it isn't 0, it accepts, and where it is 0, it rejects: both leave all
-- outputs. At the first fault it has failed, with the place and the fault, and leaves none.
use Rattle.std.specs.Prelude.{ℕ, Bool, false, if◌then◌else◌, pos, List, [], ◌∷◌, ◌++◌, length, Ok, Err}
use Rattle.std.specs.List.{zip, enumerate_from}
use Rattle.std.specs.Option.{option_map_or}
use Rattle.std.specs.Ordering.{int_eq}
use Rattle.hive_model.specs.Algorithm.{Algorithm}
use Rattle.hive_model.specs.Number.{Worth}
use Rattle.hive_model.specs.Value.{value_of}
use Rattle.hive_model.specs.declared.algorithm.Output.{Output}
use Rattle.hive_model.specs.declared.outcome.Fault.{Fault}
use Rattle.hive_model.specs.declared.outcome.Outcome.{Outcome}
use Rattle.hive_model.specs.declared.outcome.Outcome.TheVariants.{Accepted, Rejected, Failed}
use Rattle.hive_model.specs.declared.outcome.Place.{Place}
use Rattle.hive_model.specs.declared.outcome.Place.TheVariants as place
use Rattle.hive_model.specs.declared.product.Product.{Product}
use Rattle.hive_model.specs.declared.product.Product.TheVariants as product

pub record Execution : Type 0 where
  pub outcome : Outcome
  pub outputs : List Product

-- what an expression of the algorithm sees: the inputs, and the outputs above it
abbrev pub seen : Algorithm → List Product → List Product → List (ℕ × Product)
seen a inputs above = zip a.inputs inputs ++ enumerate_from a.first_output above

abbrev pub failed : Place → Fault → Execution
failed at fault = record { outcome = Failed at fault; outputs = [] }

-- one thing for a product, another for a fault
abbrev pub either : (Product → Execution) → (Fault → Execution) → Worth → Execution
either next stop (Ok p) = next p
either next stop (Err f) = stop f

abbrev pub is_zero : Product → Bool
is_zero (product.Num x) = int_eq x (pos 0)
is_zero (product.List xs) = false

abbrev pub passed : List Product → Product → Execution
passed outputs p = record { outcome = if is_zero p then Rejected else Accepted; outputs = outputs }

-- the filter's word on all the outputs
unfoldable pub filtered : Algorithm → List Product → List Product → Execution
filtered a inputs outputs =
    option_map_or (λ x. either (passed outputs) (failed place.Filter) (value_of (seen a inputs outputs) x))
    a.filter (record { outcome = Accepted; outputs = outputs })

-- the outputs from one on, below those above
unfoldable pub outputs_from : Algorithm → List Product → List Product → List Output → Execution
outputs_from a inputs above [] = filtered a inputs above
outputs_from a inputs above (o ∷ os) =
    either (λ p. outputs_from a inputs (above ++ p ∷ []) os) (failed (place.Output (length above))) (value_of (seen a inputs above) o.value)

unfoldable pub execution : Algorithm → List Product → Execution
execution a inputs = outputs_from a inputs [] a.outputs
