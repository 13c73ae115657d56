-- Which handles an expression sees, and which kind it has: a number or a list, or none where an operand has the wrong one.
use Rattle.std.specs.Prelude.{◌≡◌, ℕ, ◌+◌, ◌≤◌, nat_eq, nat_le, nat_lt, ◌&&◌, ◌||◌, if◌then◌else◌, List, [], ◌∷◌, length, Option, Some, None, MatchOption}
use Rattle.std.specs.List.{list_any}
use Rattle.std.specs.Option.{option_and_then}
use Rattle.hive_model.specs.Algorithm.{Algorithm}
use Rattle.hive_model.specs.Function.{signature}
use Rattle.hive_model.specs.Handles.{kind_of}
use Rattle.hive_model.specs.Job.{Job}
use Rattle.hive_model.specs.Tree.{Tree, Literal, Held, Minus, Operation, Unary, Dual, size, nodes_of}
use Rattle.hive_model.specs.declared.algorithm.Output.{Output}
use Rattle.hive_model.specs.declared.expr.Function.{Function}
use Rattle.hive_model.specs.declared.expr.Node.{Node}
use Rattle.hive_model.specs.declared.limits.TheConstants.{MOST_NODES}
use Rattle.hive_model.specs.declared.product.Kind.{Kind}
use Rattle.hive_model.specs.declared.product.Kind.TheVariants as kinds

-- the kind of a handle, where an expression that stands below so many outputs of the algorithm sees it
abbrev pub visible_kind : Job → Algorithm → ℕ → ℕ → Option Kind
visible_kind job a above h =
    if list_any (nat_eq h) a.inputs || (nat_le a.first_output h && nat_lt h (a.first_output + above)) then kind_of job h else None

-- a kind, where the one that is asked and the one that is there are the same
abbrev pub if_kind : Kind → Kind → Kind → Option Kind
if_kind kinds.Num kinds.Num result = Some result
if_kind kinds.List kinds.List result = Some result
if_kind asked k result = None

abbrev pub if_num : Kind → Kind → Option Kind
if_num k result = if_kind kinds.Num k result

abbrev pub if_list : Kind → Kind → Option Kind
if_list k result = if_kind kinds.List k result

-- the kind of a function of one list
abbrev pub one_by : Option Kind → Kind → Kind → Option Kind
one_by None result k = if_list k result
one_by (Some second) result k = None

abbrev pub one_kind : Function → Kind → Option Kind
one_kind f k = one_by (signature f).second (signature f).result k

-- the kind of a function of a list and a second operand
abbrev pub two_by : Option Kind → Kind → Kind → Kind → Option Kind
two_by None result k l = None
two_by (Some second) result k l = option_and_then (if_kind second l) (if_list k result)

abbrev pub two_kind : Function → Kind → Kind → Option Kind
two_kind f k l = two_by (signature f).second (signature f).result k l

-- the kind of a tree, where `see` gives those of the handles
unfoldable pub tree_kind : (ℕ → Option Kind) → Tree → Option Kind
tree_kind see (Literal n) = Some kinds.Num
tree_kind see (Held h) = see h
tree_kind see (Minus t) = option_and_then (λ k. if_num k kinds.Num) (tree_kind see t)
tree_kind see (Operation op l r) =
    option_and_then (λ k. option_and_then (λ m. option_and_then (if_num m) (if_num k kinds.Num)) (tree_kind see r)) (tree_kind see l)
tree_kind see (Unary f t) = option_and_then (one_kind f) (tree_kind see t)
tree_kind see (Dual f l r) = option_and_then (λ k. option_and_then (two_kind f k) (tree_kind see r)) (tree_kind see l)

-- the nodes are those of some tree of that kind, not too many
abbrev pub IsExpression : (ℕ → Option Kind) → Kind → List Node → Type 0
IsExpression see k nodes = (t : Tree) × (nodes ≡ nodes_of t) × (tree_kind see t ≡ Some k) × (size t ≤ MOST_NODES)

-- the expressions of outputs that stand below so many
abbrev pub HaveExpressions : Job → Algorithm → ℕ → List Output → Type 0
HaveExpressions job a above [] = Unit {0}
HaveExpressions job a above (o ∷ os) = IsExpression (visible_kind job a above) o.kind o.value × HaveExpressions job a (above + 1) os

-- an output sees the inputs and the outputs above it, the filter the inputs and all outputs
abbrev pub HasExpressions : Job → Algorithm → Type 0
HasExpressions job a =
    HaveExpressions job a 0 a.outputs
    × MatchOption a.filter (Unit {0}) (IsExpression (visible_kind job a (length a.outputs)) kinds.Num)
