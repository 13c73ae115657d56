-- Additions. An algorithm that can run in results is added to them with its execution over its inputs in the store. Results are
-- made of additions where they come from no results by one addition after another, in whatever order: so do workers make them,
-- who take one algorithm at a time.
use Rattle.std.specs.Prelude.{◌≡◌, ℕ, true, List, [], ◌∷◌, Some, slice_get, slice_set}
use Rattle.hive_model.specs.Algorithm.{Algorithm}
use Rattle.hive_model.specs.Closure.{execution_in}
use Rattle.hive_model.specs.Enabled.{can_run}
use Rattle.hive_model.specs.EventRecord.{EventRecord}
use Rattle.hive_model.specs.Job.{Job}
use Rattle.hive_model.specs.Results.{Results, none_ran}

-- the later results are the earlier ones with the algorithm of that number added
pub record IsAddition (job : Job) (event : EventRecord) (ran : Results) (number : ℕ) (later : Results) : Type 0 where
  pub algorithm : Algorithm
  pub there : slice_get job.algorithms number ≡ Some algorithm
  pub runs : can_run job event ran number ≡ true
  pub added : later ≡ slice_set ran number (Some (execution_in job event ran algorithm))

-- the algorithms of these numbers were added, the last one standing first
abbrev pub AreMadeBy : Job → EventRecord → List ℕ → Results → Type 0
AreMadeBy job event [] ran = ran ≡ none_ran job
AreMadeBy job event (number ∷ earlier) ran =
    (before : Results) × AreMadeBy job event earlier before × IsAddition job event before number ran

abbrev pub AreMadeOfAdditions : Job → EventRecord → Results → Type 0
AreMadeOfAdditions job event ran = (numbers : List ℕ) × AreMadeBy job event numbers ran
