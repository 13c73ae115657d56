-- A result as contracts see it: a decision for each sequence, an end for each algorithm, a product or nothing for each handle.
use Rattle.std.specs.Prelude.{ℕ, List, Option}
use Rattle.hive_model.specs.declared.decision.Decision.{Decision}
use Rattle.hive_model.specs.declared.decision.End.{End}
use Rattle.hive_model.specs.declared.decision.EventStatus.{EventStatus}
use Rattle.hive_model.specs.declared.product.Product.{Product}

pub record EventResult : Type 0 where
  pub event : ℕ
  pub status : EventStatus
  pub decisions : List Decision
  pub ends : List End
  pub store : List (Option Product)
