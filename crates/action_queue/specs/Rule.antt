-- The rule of the queue, over the results that wait in it, oldest first, and what each pass knows: each result is of the job,
-- and the results that all passes put are, as often, those that they took and those that wait.
use Rattle.std.specs.Prelude.{◌≡◌, ℕ, ◌<◌, ◌≤◌, List, [], ◌∷◌, ◌++◌, All, Option, Some, None, sum_by}
use Rattle.std.specs.List.{flat_map}
use Rattle.std.specs.List.Sorted.{IsPermutation}
use mathlib.Core.Option.{some}
use lib.ListN.{get_elem?}
use Rattle.expr_code.specs.Claim.{Done, IsOfJob}
use Rattle.hive_model.specs.Job.{Job}
use Rattle.action_queue.specs.declared.view.Tally.{Tally}
use Rattle.action_queue.specs.View.{first}

-- the result is of the job, if there is one
abbrev pub IsMade : Option Job → Done → Type 0
IsMade job d = (j : Job) → job ≡ Some j → IsOfJob j d.claim

-- what all passes have together
abbrev pub parts_held : List Tally → ℕ
parts_held views = sum_by (λ v. v.parts) views

abbrev pub all_put : List Tally → List Done
all_put views = flat_map (λ v. v.put) views

abbrev pub all_took : List Tally → List Done
all_took views = flat_map (λ v. v.took) views

-- what the rule says of one pass, after `now` puts and takes; a pass with no part has put and taken nothing
pub record Fits (job : Option Job) (made now : ℕ) (items : List Done) (v : Tally) : Type 0 where
  pub named : 0 < v.parts → (v.job ≡ job) × (v.made ≡ made)
  pub before : v.time ≤ now
  -- whose step was the last knows what the queue holds
  pub knows : v.time ≡ now → v.rest ≡ items
  pub idle : v.parts ≡ 0 → (v.put ≡ []) × (v.took ≡ []) × (v.time ≡ 0)

pub record Ruled (items : List Done) (views : List Tally) : Type 0 where
  pub job : Option Job
  pub made : ℕ
  pub now : ℕ
  pub each : (port : ℕ) (v : Tally) → get_elem? views port ≡ some v → Fits job made now items v
  -- nothing was put before the job was told
  pub fresh : job ≡ None → (views ≡ first ∷ []) × (items ≡ [])
  pub start : now ≡ 0 → items ≡ []
  -- the last step was some pass's
  pub latest : (port : ℕ) × (v : Tally) × (get_elem? views port ≡ some v) × (v.time ≡ now)
  pub all_parts : parts_held views ≡ made
  pub of_job : All (IsMade job) items
  pub balance : IsPermutation (all_put views) (all_took views ++ items)
