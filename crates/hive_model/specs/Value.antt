-- The value of an expression over the products that are held: by recursion on the tree, operands from the left, all of them.
-- The first fault among the operands is the answer; else the operator's or function's own.
use Rattle.std.specs.Prelude.{ℕ, nat_eq, neg_ℤ, List, Ok, Err}
use Rattle.std.specs.Option.{option_map_or}
use Rattle.std.specs.Map.{lookup}
use Rattle.hive_model.specs.Number.{Worth, num}
use Rattle.hive_model.specs.Operator.{operation}
use Rattle.hive_model.specs.Call.{unfit, call_one, call_two}
use Rattle.hive_model.specs.Tree.{Tree, Literal, Held, Minus, Operation, Unary, Dual, tree_of}
use Rattle.hive_model.specs.declared.expr.Binary.{Binary}
use Rattle.hive_model.specs.declared.expr.Node.{Node}
use Rattle.hive_model.specs.declared.product.Product.{Product}
use Rattle.hive_model.specs.declared.product.Product.TheVariants as product

-- goes on with a product, and stays at a fault
abbrev pub and_then : Worth → (Product → Worth) → Worth
and_then (Ok p) next = next p
and_then (Err f) next = Err f

abbrev pub negated : Product → Worth
negated (product.Num x) = num (neg_ℤ x)
negated (product.List xs) = unfit

abbrev pub operated : Binary → Product → Product → Worth
operated op (product.Num x) (product.Num y) = operation op x y
operated op p q = unfit

unfoldable pub value : List (ℕ × Product) → Tree → Worth
value held (Literal n) = Ok (product.Num n)
value held (Held h) = option_map_or Ok (lookup (nat_eq h) held) unfit
value held (Minus t) = and_then (value held t) negated
value held (Operation op l r) = and_then (value held l) (λ p. and_then (value held r) (operated op p))
value held (Unary f t) = and_then (value held t) (call_one f)
value held (Dual f l r) = and_then (value held l) (λ p. and_then (value held r) (call_two f p))

-- the value of a list of nodes: that of its tree
unfoldable pub value_of : List (ℕ × Product) → List Node → Worth
value_of held nodes = option_map_or (value held) (tree_of nodes) unfit
