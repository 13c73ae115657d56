-- A claim as contracts see it: its ticket, the place of its event in the input, the algorithm's number with the instance on
-- loan, the algorithm itself, and the inputs that the instance holds.
use Rattle.std.specs.Prelude.{◌≡◌, ℕ, List, map, Option, Some, slice_get}
use Rattle.std.specs.Arc.{arc_value}
use Rattle.std.specs.declared.alloc.Global.{Global}
use Rattle.std.specs.declared.sync.Arc.{Arc}
use Rattle.hive_model.specs.Algorithm.{Algorithm}
use Rattle.hive_model.specs.Execution.{Execution}
use Rattle.hive_model.specs.Job.{Job}
use Rattle.hive_model.specs.declared.lent.Lent.{Lent}
use Rattle.hive_model.specs.declared.outcome.Outcome.{Outcome}
use Rattle.hive_model.specs.declared.product.Product.{Product}

pub record Claim : Type 0 where
  pub ticket : ℕ
  pub place : ℕ
  pub algorithm : ℕ
  pub clone : Option ℕ
  pub body : Algorithm
  pub inputs : List Product

abbrev pub claim_of : ℕ → ℕ → Algorithm → Lent → Claim
claim_of ticket place body lent = record {
  ticket = ticket;
  place = place;
  algorithm = lent.algorithm;
  clone = lent.clone;
  body = body;
  inputs = lent.scratch.inputs;
}

-- a claim that was executed, and what that left
pub record Done : Type 0 where
  pub claim : Claim
  pub left : Execution

-- that outcome, and the products that are shared
abbrev pub left_with : Outcome → List (Arc Product Global) → Execution
left_with outcome outputs = record { outcome = outcome; outputs = map arc_value outputs }

-- the body is the job's algorithm of that number
abbrev pub IsOfJob : Job → Claim → Type 0
IsOfJob job claim = slice_get job.algorithms claim.algorithm ≡ Some claim.body
