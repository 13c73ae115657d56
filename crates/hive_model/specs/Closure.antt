-- A round adds to the results each algorithm that can run, with its execution over its inputs in the store. The closure of an
-- event is what as many rounds as there are algorithms make of no results: after them no algorithm can run, which is a law.
use Rattle.std.specs.Prelude.{ℕ, zero, suc, if◌then◌else◌, length, map, Option, Some}
use Rattle.std.specs.List.{enumerate_from}
use Rattle.hive_model.specs.Algorithm.{Algorithm}
use Rattle.hive_model.specs.Enabled.{can_run, inputs_in}
use Rattle.hive_model.specs.EventRecord.{EventRecord}
use Rattle.hive_model.specs.Execution.{Execution, execution}
use Rattle.hive_model.specs.Job.{Job}
use Rattle.hive_model.specs.Results.{Results, none_ran, ran_at, store}

-- the execution of an algorithm over what the store of these results holds
abbrev pub execution_in : Job → EventRecord → Results → Algorithm → Execution
execution_in job event ran a = execution a (inputs_in (store job event ran) a.inputs)

abbrev pub run_one : Job → EventRecord → Results → ℕ × Algorithm → Option Execution
run_one job event ran (number, a) =
    if can_run job event ran number then Some (execution_in job event ran a) else ran_at ran number

unfoldable pub round : Job → EventRecord → Results → Results
round job event ran = map (run_one job event ran) (enumerate_from 0 job.algorithms)

unfoldable pub rounds : ℕ → Job → EventRecord → Results → Results
rounds zero job event ran = ran
rounds (suc n) job event ran = rounds n job event (round job event ran)

unfoldable pub closure : Job → EventRecord → Results
closure job event = rounds (length job.algorithms) job event (none_ran job)
