-- Whose output has which handle.
use Rattle.std.specs.Prelude.{◌≡◌, ℕ, ◌+◌, ◌<◌, length, Some, slice_get}
use Rattle.hive_model.specs.Algorithm.{Algorithm}
use Rattle.hive_model.specs.Job.{Job}

-- output i, counted from 0, of the algorithm of that number
pub record IsOutput (job : Job) (number i handle : ℕ) : Type 0 where
  pub algorithm : Algorithm
  pub there : slice_get job.algorithms number ≡ Some algorithm
  pub within : i < length algorithm.outputs
  pub at : handle ≡ algorithm.first_output + i
