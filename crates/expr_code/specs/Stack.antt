-- The stack on which an expression runs. Its top stands first here: each node takes its operands off and puts its value on.
-- That this leaves the value of the tree is what `evaluate` ensures, and by it `perform` the execution.
use Rattle.std.specs.Prelude.{◌≡◌, ℕ, ◌+◌, ◌≤◌, if◌then◌else◌, List, [], ◌∷◌, length, map, reverse, Some, None, slice_get, IfOk, IsOk, MatchOption, Result, Ok, Err}
use Rattle.std.specs.Option.{option_map_or}
use Rattle.std.specs.List.{AllByRecursion}
use Rattle.hive_model.specs.Algorithm.{Algorithm}
use Rattle.hive_model.specs.Call.{unfit, call_one, call_two}
use Rattle.hive_model.specs.Execution.{is_zero}
use Rattle.hive_model.specs.Many.{Many}
use Rattle.hive_model.specs.Number.{Worth}
use Rattle.hive_model.specs.Value.{and_then, negated, operated}
use Rattle.hive_model.specs.declared.algorithm.Output.{Output}
use Rattle.hive_model.specs.declared.expr.Node.{Node}
use Rattle.hive_model.specs.declared.expr.Node.TheVariants as node
use Rattle.hive_model.specs.declared.outcome.Fault.{Fault}
use Rattle.hive_model.specs.declared.outcome.Fault.TheVariants.{Empty}
use Rattle.hive_model.specs.declared.outcome.Outcome.{Outcome}
use Rattle.hive_model.specs.declared.outcome.Outcome.TheVariants.{Accepted, Rejected}
use Rattle.hive_model.specs.declared.product.Product.{Product}
use Rattle.hive_model.specs.declared.product.Product.TheVariants as product
use Rattle.hive_model.specs.declared.scratch.Operand.{Operand}
use Rattle.hive_model.specs.declared.scratch.Operand.TheVariants as operand
use Rattle.expr_code.specs.Frame.{products, product_named}
use Rattle.expr_code.specs.declared.frame.Frame.{Frame}

-- operands

abbrev pub operand_in : List Product → Operand → Worth
operand_in products (operand.Made p) = Ok p
operand_in products (operand.Held n) = option_map_or Ok (slice_get products n) unfit

abbrev pub worth_in : List Product → Result Operand Fault → Worth
worth_in products (Ok it) = operand_in products it
worth_in products (Err f) = Err f

-- no operand is at fault
abbrev pub IsSound : List Product → Result Operand Fault → Type 0
IsSound products it = IfOk it (λ operand. IsOk (operand_in products operand))

abbrev pub stack_in : List Product → List Operand → List Worth
stack_in products items = map (operand_in products) (reverse items)

abbrev pub stack_of : Frame → Many Operand → List Worth
stack_of frame stack = stack_in (products frame) stack.items

-- how many operands there is room for
abbrev pub room : Many Operand → ℕ
room stack = length stack.items + stack.spare

-- there is room for the nodes of each expression of the algorithm
pub record HasRoomFor (a : Algorithm) (stack : Many Operand) : Type 0 where
  pub outputs : AllByRecursion (λ (o : Output). length o.value ≤ room stack) a.outputs
  pub filter : MatchOption a.filter (Unit {0}) (λ x. length x ≤ room stack)

-- nodes

-- a value on top, or the fault that it is
abbrev pub with_top : Worth → List Worth → Result (List Worth) Fault
with_top (Ok p) below = Ok (Ok p ∷ below)
with_top (Err f) below = Err f

abbrev pub over_one : (Product → Worth) → List Worth → Result (List Worth) Fault
over_one value [] = Err Empty
over_one value (x ∷ below) = with_top (and_then x value) below

abbrev pub over_two : (Product → Product → Worth) → List Worth → Result (List Worth) Fault
over_two value [] = Err Empty
over_two value (y ∷ []) = Err Empty
over_two value (y ∷ x ∷ below) = with_top (and_then x (λ p. and_then y (value p))) below

unfoldable pub after_node : List (ℕ × Product) → Node → List Worth → Result (List Worth) Fault
after_node held (node.Number n) stack = with_top (Ok (product.Num n)) stack
after_node held (node.Handle h) stack = with_top (option_map_or Ok (product_named h held) unfit) stack
after_node held (node.Negate a) stack = over_one negated stack
after_node held (node.Binary op a b) stack = over_two (operated op) stack
after_node held (node.Call f a None) stack = over_one (call_one f) stack
after_node held (node.Call f a (Some b)) stack = over_two (call_two f) stack

abbrev pub going_on : Result (List Worth) Fault → (List Worth → Result (List Worth) Fault) → Result (List Worth) Fault
going_on (Ok stack) next = next stack
going_on (Err f) next = Err f

unfoldable pub after_nodes : List (ℕ × Product) → List Node → List Worth → Result (List Worth) Fault
after_nodes held [] stack = Ok stack
after_nodes held (n ∷ rest) stack = going_on (after_node held n stack) (after_nodes held rest)

-- The later stack is the earlier one without the operands that the step takes, and the worth is what the step puts on it.
abbrev pub TakesOff : Frame → (List Worth → Result (List Worth) Fault) → Many Operand → Many Operand → Worth → Type 0
TakesOff frame step old new worth = step (stack_of frame old) ≡ with_top worth (stack_of frame new)

-- the code goes on with that stack, or stops at that fault
abbrev pub Follows : Result (List Worth) Fault → List Worth → Result (Unit {0}) Fault → Type 0
Follows after stack (Ok _) = after ≡ Ok stack
Follows after stack (Err f) = after ≡ Err f

-- what the filter's value makes of the event

abbrev pub verdict : Worth → Result Outcome Fault
verdict (Ok p) = Ok (if is_zero p then Rejected else Accepted)
verdict (Err f) = Err f
