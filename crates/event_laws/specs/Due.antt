-- An execution that is due in results: its algorithm is reached, has all its inputs in the store, and this is its execution over
-- them.
use Rattle.std.specs.Prelude.{◌≡◌, ℕ, true}
use Rattle.hive_model.specs.Algorithm.{Algorithm}
use Rattle.hive_model.specs.Closure.{execution_in}
use Rattle.hive_model.specs.Enabled.{all_there}
use Rattle.hive_model.specs.EventRecord.{EventRecord}
use Rattle.hive_model.specs.Execution.{Execution}
use Rattle.hive_model.specs.Job.{Job}
use Rattle.hive_model.specs.Reached.{reached, is_reached}
use Rattle.hive_model.specs.Results.{Results, outcomes, store}

pub record IsDue (job : Job) (event : EventRecord) (ran : Results) (number : ℕ) (a : Algorithm) (it : Execution) : Type 0 where
  pub reached_is : is_reached (reached job (outcomes ran)) number ≡ true
  pub inputs : all_there (store job event ran) a.inputs ≡ true
  pub value : it ≡ execution_in job event ran a
