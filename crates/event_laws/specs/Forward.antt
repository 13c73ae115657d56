-- A job whose algorithms take handles before their own alone.
use Rattle.std.specs.Prelude.{◌<◌}
use Rattle.std.specs.List.{AllByRecursion}
use Rattle.hive_model.specs.Algorithm.{Algorithm}
use Rattle.hive_model.specs.Job.{Job}

abbrev pub TakesForward : Job → Type 0
TakesForward job = AllByRecursion (λ (a : Algorithm). AllByRecursion (λ h. h < a.first_output) a.inputs) job.algorithms
