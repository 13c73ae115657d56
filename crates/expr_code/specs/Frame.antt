-- What an expression of an algorithm sees: the products of the inputs, and then those of the outputs above it. Each of them has
-- an index here, and a handle by which the expression names it.
use Rattle.std.specs.Prelude.{◌≡◌, ℕ, ◌<◌, nat_eq, List, ◌++◌, length, map, Option, Some, None, slice_get}
use Rattle.std.specs.Arc.{arc_value}
use Rattle.std.specs.Map.{lookup}
use Rattle.hive_model.specs.Execution.{seen}
use Rattle.hive_model.specs.declared.product.Product.{Product}
use Rattle.expr_code.specs.declared.frame.Frame.{Frame}

abbrev pub products : Frame → List Product
products frame = map arc_value frame.inputs.now ++ map arc_value frame.outputs.now

abbrev pub seen_by : Frame → List (ℕ × Product)
seen_by frame = seen frame.body.now (map arc_value frame.inputs.now) (map arc_value frame.outputs.now)

-- the product that a handle names; the first that is bound to it counts
abbrev pub product_named : ℕ → List (ℕ × Product) → Option Product
product_named handle held = lookup (nat_eq handle) held

-- the index is that of the product that was found, or nothing was found
abbrev pub IsIndexOf : Option ℕ → List Product → Option Product → Type 0
IsIndexOf None products found = found ≡ None
IsIndexOf (Some n) products found = (slice_get products n ≡ found) × (n < length products)
