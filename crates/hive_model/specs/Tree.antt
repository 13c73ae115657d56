-- An expression is a tree, kept as the list of its nodes: left operand, right operand, parent, and the root last.
-- `nodes_of` is that list; `tree_of` gives the tree of such a list back.
use Rattle.std.specs.Prelude.{ℕ, zero, suc, ◌+◌, ◌-◌, ℤ, List, [], ◌∷◌, ◌++◌, length, Option, Some, None, slice_get}
use Rattle.std.specs.Option.{option_and_then, option_map}
use Rattle.hive_model.specs.declared.expr.Binary.{Binary}
use Rattle.hive_model.specs.declared.expr.Function.{Function}
use Rattle.hive_model.specs.declared.expr.Node.{Node}
use Rattle.hive_model.specs.declared.expr.Node.TheVariants as node

pub data Tree : Type 0 where
  Literal : ℤ → Tree
  Held : ℕ → Tree
  Minus : Tree → Tree
  Operation : Binary → Tree → Tree → Tree
  Unary : Function → Tree → Tree
  Dual : Function → Tree → Tree → Tree

-- how many nodes a tree has
abbrev pub size : Tree → ℕ
size (Literal n) = 1
size (Held h) = 1
size (Minus t) = size t + 1
size (Operation op l r) = size l + size r + 1
size (Unary f t) = size t + 1
size (Dual f l r) = size l + size r + 1

-- the place of a tree's root, where its nodes begin at `from`
abbrev pub root : ℕ → Tree → ℕ
root from t = from + size t - 1

-- the nodes of a tree that begin at the place `from`
abbrev pub nodes_from : ℕ → Tree → List Node
nodes_from from (Literal n) = node.Number n ∷ []
nodes_from from (Held h) = node.Handle h ∷ []
nodes_from from (Minus t) = nodes_from from t ++ node.Negate (root from t) ∷ []
nodes_from from (Operation op l r) =
    nodes_from from l ++ (nodes_from (from + size l) r ++ node.Binary op (root from l) (root (from + size l) r) ∷ [])
nodes_from from (Unary f t) = nodes_from from t ++ node.Call f (root from t) None ∷ []
nodes_from from (Dual f l r) =
    nodes_from from l ++ (nodes_from (from + size l) r ++ node.Call f (root from l) (Some (root (from + size l) r)) ∷ [])

unfoldable pub nodes_of : Tree → List Node
nodes_of t = nodes_from 0 t

-- the tree of a node, where `below` gives the trees of its operands
abbrev pub node_tree : (ℕ → Option Tree) → Node → Option Tree
node_tree below (node.Number n) = Some (Literal n)
node_tree below (node.Handle h) = Some (Held h)
node_tree below (node.Negate a) = option_map Minus (below a)
node_tree below (node.Binary op a b) = option_and_then (λ l. option_map (Operation op l) (below b)) (below a)
node_tree below (node.Call f a None) = option_map (Unary f) (below a)
node_tree below (node.Call f a (Some b)) = option_and_then (λ l. option_map (Dual f l) (below b)) (below a)

-- the tree under the node at a place, if it is at most `depth` high
unfoldable pub tree_within : ℕ → List Node → ℕ → Option Tree
tree_within zero nodes place = None
tree_within (suc depth) nodes place = option_and_then (node_tree (tree_within depth nodes)) (slice_get nodes place)

unfoldable pub tree_of : List Node → Option Tree
tree_of nodes = tree_within (length nodes) nodes (length nodes - 1)
