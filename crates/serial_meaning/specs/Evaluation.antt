-- What the evaluation of an expression keeps: the products that handles hold, and what a node has come to; and the nodes by the
-- number of their operands.
use Rattle.std.specs.Prelude.{◌≡◌, ℕ, List, Result, Some, None, Ok, Err}
use Rattle.std.specs.Arc.{arc_value}
use Rattle.std.specs.Option.{option_map_or}
use Rattle.hive_model.specs.Call.{unfit, call_one, call_two}
use Rattle.hive_model.specs.Number.{Worth}
use Rattle.hive_model.specs.Tree.{tree_within}
use Rattle.hive_model.specs.Value.{negated, operated, value}
use Rattle.hive_model.specs.declared.expr.Node.{Node}
use Rattle.hive_model.specs.declared.expr.Node.TheVariants as node
use Rattle.hive_model.specs.declared.outcome.Fault.{Fault}
use Rattle.hive_model.specs.declared.product.Product.{Product}
use Rattle.serial_meaning.specs.declared.form.Form.{Form}
use Rattle.serial_meaning.specs.declared.form.Form.TheVariants as form
use Rattle.serial_meaning.specs.declared.form.One.{One}
use Rattle.serial_meaning.specs.declared.form.One.TheVariants as one
use Rattle.serial_meaning.specs.declared.form.Two.{Two}
use Rattle.serial_meaning.specs.declared.form.Two.TheVariants as two
use Rattle.serial_meaning.specs.declared.value.Held.{Held}
use Rattle.serial_meaning.specs.declared.value.Found.{Found}
use Rattle.serial_meaning.specs.declared.value.Found.TheVariants as found

-- the handle and its product
abbrev pub bound : Held → ℕ × Product
bound it = (it.handle, arc_value it.product)

-- the product or the fault
abbrev pub said : Found → Worth
said (found.Held p) = Ok p.now
said (found.Made w) = w

-- what a node makes of one operand
abbrev pub made_of_one : One → Product → Worth
made_of_one one.Negate = negated
made_of_one (one.Call f) = call_one f

-- what a node makes of two operands
abbrev pub made_of_two : Two → Product → Product → Worth
made_of_two (two.Operator op) = operated op
made_of_two (two.Call f) = call_two f

-- the node of that form
abbrev pub node_of : Form → Node
node_of (form.Number n) = node.Number n
node_of (form.Handle h) = node.Handle h
node_of (form.One one.Negate a) = node.Negate a
node_of (form.One (one.Call f) a) = node.Call f a None
node_of (form.Two (two.Operator op) a b) = node.Binary op a b
node_of (form.Two (two.Call f) a b) = node.Call f a (Some b)

-- the value of the tree under a node
unfoldable pub value_within : List (ℕ × Product) → ℕ → List Node → ℕ → Worth
value_within held depth nodes place = option_map_or (value held) (tree_within depth nodes place) unfit
