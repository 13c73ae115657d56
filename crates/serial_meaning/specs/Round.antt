-- A round by what it looks at: the members that are reached, and the event store, both as the results before it give them.
use Rattle.std.specs.Prelude.{ℕ, if◌then◌else◌, List, Option, Some}
use Rattle.hive_model.specs.Algorithm.{Algorithm}
use Rattle.hive_model.specs.Enabled.{is_ready, inputs_in}
use Rattle.hive_model.specs.Execution.{Execution, execution}
use Rattle.hive_model.specs.Results.{Results, outcome_of, ran_at}
use Rattle.hive_model.specs.declared.product.Product.{Product}
use Rattle.hive_model.specs.declared.sequence.Member.{Member}

-- what the round makes of the algorithm of that number
abbrev pub run_by : List Member → List (Option Product) → Results → ℕ × Algorithm → Option Execution
run_by members places ran (number, a) =
    if is_ready members places number a (outcome_of (ran_at ran number)) then Some (execution a (inputs_in places a.inputs))
    else ran_at ran number
