-- The value of a node by the values of its operands.
use Rattle.std.proofs.Common.{◌≡◌, ℕ, ℤ, suc, zero, ◌-◌, ◌<◌, List, Option, Some, None, Ok, IsSome, length, slice_get, nat_eq, refl, sym, ap, subst, ◌∙◌, arith}
use Rattle.std.proofs.lemmas.Option.{slice_get_within}
use Rattle.std.specs.Map.{lookup}
use Rattle.std.specs.Option.{option_map_or, option_and_then, option_map}
use Rattle.hive_model.specs.Call.{unfit}
use Rattle.hive_model.specs.Number.{Worth}
use Rattle.hive_model.specs.Tree.{Tree, Minus, Operation, Unary, Dual, node_tree, tree_of, tree_within}
use Rattle.hive_model.specs.Value.{and_then, value}
use Rattle.hive_model.specs.declared.expr.Node.{Node}
use Rattle.hive_model.specs.declared.product.Product.{Product}
use Rattle.hive_model.specs.declared.product.Product.TheVariants as product
use Rattle.serial_meaning.specs.Evaluation.{node_of, made_of_one, made_of_two, value_within}
use Rattle.serial_meaning.specs.declared.form.Form.{Form}
use Rattle.serial_meaning.specs.declared.form.Form.TheVariants as form
use Rattle.serial_meaning.specs.declared.form.One.{One}
use Rattle.serial_meaning.specs.declared.form.One.TheVariants as one
use Rattle.serial_meaning.specs.declared.form.Two.{Two}
use Rattle.serial_meaning.specs.declared.form.Two.TheVariants as two

abbrev Bound : Type 0
Bound = List (ℕ × Product)

-- the tree under a node

some-along : (a b : Option Tree) → a ≡ b → IsSome a → IsSome b
some-along a b e h = let P : Option Tree → Type 0 = λ o. IsSome o in subst P e h

pub tree-deep : (nodes : List Node) (depth place : ℕ) → IsSome (tree_within depth nodes place) → 0 < depth
unfolding tree_within
tree-deep nodes zero place h = cc
tree-deep nodes (suc d) place h = omega arith

node-there : (nodes : List Node) (d place : ℕ) (o : Option Node) → slice_get nodes place ≡ o →
    IsSome (option_and_then (node_tree (tree_within d nodes)) o) → place < length nodes
node-there nodes d place None e h = cc
node-there nodes d place (Some n) e h = slice_get_within nodes place n e

pub tree-inside : (nodes : List Node) (depth place : ℕ) → IsSome (tree_within depth nodes place) → place < length nodes
unfolding tree_within
tree-inside nodes zero place h = cc
tree-inside nodes (suc d) place h = node-there nodes d place (slice_get nodes place) refl h

pub tree-some : (nodes : List Node) → IsSome (tree_of nodes) → 0 < length nodes
unfolding tree_of
tree-some nodes h = tree-deep nodes (length nodes) (length nodes - 1) h

below : (d : ℕ) → suc d - 1 ≡ d
below d = omega arith

-- a node of that form stands at the place
abbrev pub StandsAt : List Node → ℕ → Form → Type 0
StandsAt nodes place f = slice_get nodes place ≡ Some (node_of f)

pub stands-at : (nodes : List Node) (place : ℕ) (f : Form) (n : Node) → slice_get nodes place ≡ Some n → node_of f ≡ n →
    StandsAt nodes place f
stands-at nodes place f n e is = e ∙ ap Some (sym is)

tree_within-form : (nodes : List Node) (d place : ℕ) (f : Form) → StandsAt nodes place f →
    tree_within (suc d) nodes place ≡ node_tree (tree_within d nodes) (node_of f)
unfolding tree_within
tree_within-form nodes d place f e = ap (option_and_then (node_tree (tree_within d nodes))) e

-- trees of one operand and of two

abbrev tree_one : One → Tree → Tree
tree_one one.Negate = Minus
tree_one (one.Call f) = Unary f

node_tree-one : (under : ℕ → Option Tree) (k : One) (a : ℕ) →
    node_tree under (node_of (form.One k a)) ≡ option_map (tree_one k) (under a)
node_tree-one under one.Negate a = refl
node_tree-one under (one.Call f) a = refl

abbrev tree_two : Two → Tree → Tree → Tree
tree_two (two.Operator op) = Operation op
tree_two (two.Call f) = Dual f

abbrev both : (Tree → Tree → Tree) → Option Tree → Option Tree → Option Tree
both make l r = option_and_then (λ t. option_map (make t) r) l

node_tree-two : (under : ℕ → Option Tree) (k : Two) (a b : ℕ) →
    node_tree under (node_of (form.Two k a b)) ≡ both (tree_two k) (under a) (under b)
node_tree-two under (two.Operator op) a b = refl
node_tree-two under (two.Call f) a b = refl

-- the trees of the operands

one-operand : (make : Tree → Tree) (t : Option Tree) → IsSome (option_map make t) → IsSome t
one-operand make None h = h
one-operand make (Some t) h = refl

first-operand : (make : Tree → Tree → Tree) (l r : Option Tree) → IsSome (both make l r) → IsSome l
first-operand make None r h = h
first-operand make (Some l) r h = refl

second-operand : (make : Tree → Tree → Tree) (l r : Option Tree) → IsSome (both make l r) → IsSome r
second-operand make None r h = cc
second-operand make (Some l) None h = h
second-operand make (Some l) (Some r) h = refl

pub operand-one : (nodes : List Node) (depth place : ℕ) (k : One) (a : ℕ) → IsSome (tree_within depth nodes place) →
    StandsAt nodes place (form.One k a) → IsSome (tree_within (depth - 1) nodes a)
unfolding tree_within
operand-one nodes zero place k a h e = cc
operand-one nodes (suc d) place k a h e =
    rw (below d)
    (one-operand (tree_one k) (tree_within d nodes a)
    (some-along _ _ (tree_within-form nodes d place (form.One k a) e ∙ node_tree-one (tree_within d nodes) k a) h))

opened-two : (nodes : List Node) (d place : ℕ) (k : Two) (a b : ℕ) → IsSome (tree_within (suc d) nodes place) →
    StandsAt nodes place (form.Two k a b) → IsSome (both (tree_two k) (tree_within d nodes a) (tree_within d nodes b))
opened-two nodes d place k a b h e =
    some-along _ _ (tree_within-form nodes d place (form.Two k a b) e ∙ node_tree-two (tree_within d nodes) k a b) h

pub operand-first : (nodes : List Node) (depth place : ℕ) (k : Two) (a b : ℕ) → IsSome (tree_within depth nodes place) →
    StandsAt nodes place (form.Two k a b) → IsSome (tree_within (depth - 1) nodes a)
unfolding tree_within
operand-first nodes zero place k a b h e = cc
operand-first nodes (suc d) place k a b h e =
    rw (below d) (first-operand (tree_two k) _ _ (opened-two nodes d place k a b h e))

pub operand-second : (nodes : List Node) (depth place : ℕ) (k : Two) (a b : ℕ) →
    IsSome (tree_within depth nodes place) → StandsAt nodes place (form.Two k a b) →
    IsSome (tree_within (depth - 1) nodes b)
unfolding tree_within
operand-second nodes zero place k a b h e = cc
operand-second nodes (suc d) place k a b h e =
    rw (below d) (second-operand (tree_two k) _ _ (opened-two nodes d place k a b h e))

-- what the node comes to

abbrev worth : Bound → Option Tree → Worth
worth held t = option_map_or (value held) t unfit

worth-one : (held : Bound) (k : One) (t : Option Tree) →
    worth held (option_map (tree_one k) t) ≡ and_then (worth held t) (made_of_one k)
unfolding value unfit
worth-one held one.Negate None = refl
worth-one held (one.Call f) None = refl
worth-one held one.Negate (Some t) = refl
worth-one held (one.Call f) (Some t) = refl

worth-two : (held : Bound) (k : Two) (l r : Option Tree) → IsSome (both (tree_two k) l r) →
    worth held (both (tree_two k) l r) ≡ and_then (worth held l) (λ p. and_then (worth held r) (made_of_two k p))
unfolding value
worth-two held k None r h = cc
worth-two held k (Some l) None h = cc
worth-two held (two.Operator op) (Some l) (Some r) h = refl
worth-two held (two.Call f) (Some l) (Some r) h = refl

value_within-form : (held : Bound) (nodes : List Node) (d place : ℕ) (f : Form) → StandsAt nodes place f →
    value_within held (suc d) nodes place ≡ worth held (node_tree (tree_within d nodes) (node_of f))
unfolding value_within
value_within-form held nodes d place f e = ap (worth held) (tree_within-form nodes d place f e)

pub value-number : (held : Bound) (nodes : List Node) (depth place : ℕ) (n : ℤ) → 0 < depth →
    StandsAt nodes place (form.Number n) → Ok (product.Num n) ≡ value_within held depth nodes place
unfolding value
value-number held nodes zero place n h e = absurd (omega arith)
value-number held nodes (suc d) place n h e = sym (value_within-form held nodes d place (form.Number n) e)

pub value-handle : (held : Bound) (nodes : List Node) (depth place h : ℕ) → 0 < depth →
    StandsAt nodes place (form.Handle h) →
    option_map_or Ok (lookup (nat_eq h) held) unfit ≡ value_within held depth nodes place
unfolding value
value-handle held nodes zero place n h e = absurd (omega arith)
value-handle held nodes (suc d) place n h e = sym (value_within-form held nodes d place (form.Handle n) e)

pub value-one : (held : Bound) (nodes : List Node) (depth place : ℕ) (k : One) (a : ℕ) (operand : Worth) → 0 < depth →
    StandsAt nodes place (form.One k a) → operand ≡ value_within held (depth - 1) nodes a →
    and_then operand (made_of_one k) ≡ value_within held depth nodes place
unfolding value_within
value-one held nodes zero place k a operand h e is = absurd (omega arith)
value-one held nodes (suc d) place k a operand h e is =
    let w : operand ≡ worth held (tree_within d nodes a) = is ∙ ap (λ n. worth held (tree_within n nodes a)) (below d) in
    ap (λ x. and_then x (made_of_one k)) w ∙ sym (worth-one held k (tree_within d nodes a))
    ∙ ap (worth held) (sym (node_tree-one (tree_within d nodes) k a))
    ∙ sym (value_within-form held nodes d place (form.One k a) e)

pub value-two : (held : Bound) (nodes : List Node) (depth place : ℕ) (k : Two) (a b : ℕ) (left right : Worth) →
    IsSome (tree_within depth nodes place) → StandsAt nodes place (form.Two k a b) →
    left ≡ value_within held (depth - 1) nodes a → right ≡ value_within held (depth - 1) nodes b →
    and_then left (λ p. and_then right (made_of_two k p)) ≡ value_within held depth nodes place
unfolding value_within
value-two held nodes zero place k a b left right h e is also =
    let deep = tree-deep nodes 0 place h in absurd (omega arith)
value-two held nodes (suc d) place k a b left right h e is also =
    let l : left ≡ worth held (tree_within d nodes a) = is ∙ ap (λ n. worth held (tree_within n nodes a)) (below d) in
    let r : right ≡ worth held (tree_within d nodes b) = also ∙ ap (λ n. worth held (tree_within n nodes b)) (below d) in
    rw (l, r)
    (sym (worth-two held k (tree_within d nodes a) (tree_within d nodes b) (opened-two nodes d place k a b h e))
    ∙ ap (worth held) (sym (node_tree-two (tree_within d nodes) k a b))
    ∙ sym (value_within-form held nodes d place (form.Two k a b) e))
