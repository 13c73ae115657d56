-- A store as contracts see it: the shared product in a place is the product.
use Rattle.std.specs.Prelude.{Option, Some, None}
use Rattle.std.specs.declared.sync.Arc.{Arc}
use Rattle.std.specs.Arc.{arc_value}
use Rattle.std.specs.declared.alloc.Global.{Global}
use Rattle.hive_model.specs.declared.product.Product.{Product}

abbrev pub shown : Option (Arc Product Global) → Option Product
shown (Some it) = Some (arc_value it)
shown None = None
