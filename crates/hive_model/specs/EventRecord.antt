-- A record as contracts see it: the event's number, and a product or nothing for each raw handle.
use Rattle.std.specs.Prelude.{ℕ, List, Option}
use Rattle.hive_model.specs.declared.product.Product.{Product}

pub record EventRecord : Type 0 where
  pub event : ℕ
  pub cells : List (Option Product)
