-- The tree under a node of a list: what it is by the node.
use Rattle.std.proofs.Common.{◌≡◌, ℕ, zero, suc, ◌-◌, ◌<◌, List, [], ◌∷◌, ◌++◌, length, slice_get, Option, Some, None, refl, sym, ap, ◌∙◌, arith}
use Rattle.std.specs.Option.{option_map, option_and_then}
use Rattle.std.proofs.lemmas.List.{append_assoc}
use Rattle.hive_model.specs.Tree.{Tree, Literal, Held, Minus, Operation, Unary, Dual, nodes_of, node_tree, tree_of, tree_within}
use Rattle.hive_model.specs.declared.expr.Binary.{Binary}
use Rattle.hive_model.specs.declared.expr.Function.{Function}
use Rattle.hive_model.specs.declared.expr.Node.{Node}
use Rattle.hive_model.specs.declared.expr.Node.TheVariants as node
use Rattle.expr_text.specs.Printed.{is_compound, is_compound_node}
use Rattle.event_laws.proofs.Trees.{length-nodes_from, size-positive, tree_of-nodes_of}

pub and_then_some : {A B : Type 0} (f : A → Option B) (o : Option A) (y : B) → option_and_then f o ≡ Some y →
    (x : A) × (o ≡ Some x) × (f x ≡ Some y)
and_then_some f (Some x) y h = (x, refl, h)
and_then_some f None y h = absurd cc

pub map_some : {A B : Type 0} (f : A → B) (o : Option A) (y : B) → option_map f o ≡ Some y → (x : A) × (o ≡ Some x) × (y ≡ f x)
map_some f (Some x) y h = let same : f x ≡ y = cc in (x, refl, sym same)
map_some f None y h = absurd cc

-- there is a node where there is a tree
pub tree_within-there : (depth : ℕ) (nodes : List Node) (place : ℕ) (t : Tree) → tree_within depth nodes place ≡ Some t →
    (nd : Node) × (slice_get nodes place ≡ Some nd) × (0 < depth)
unfolding tree_within
tree_within-there zero nodes place t h = absurd cc
tree_within-there (suc d) nodes place t h =
    let found = and_then_some (node_tree (tree_within d nodes)) (slice_get nodes place) t h in
    (found.0, found.1, omega arith)

-- the tree of a node is over those of its operands
pub tree_within-node : (depth : ℕ) (nodes : List Node) (place : ℕ) (nd : Node) (t : Tree) →
    tree_within depth nodes place ≡ Some t → slice_get nodes place ≡ Some nd →
    node_tree (tree_within (depth - 1) nodes) nd ≡ Some t
unfolding tree_within
tree_within-node zero nodes place nd t h k = absurd cc
tree_within-node (suc d) nodes place nd t h k =
    let less : suc d - 1 ≡ d = omega arith in
    rw less (rw k at h)

pub node_tree-negate : (lower : ℕ → Option Tree) (a : ℕ) (t : Tree) → node_tree lower (node.Negate a) ≡ Some t →
    (x : Tree) × (lower a ≡ Some x) × (t ≡ Minus x)
node_tree-negate lower a t h = map_some Minus (lower a) t h

pub node_tree-binary : (lower : ℕ → Option Tree) (op : Binary) (a b : ℕ) (t : Tree) →
    node_tree lower (node.Binary op a b) ≡ Some t →
    (x : Tree) × (y : Tree) × (lower a ≡ Some x) × (lower b ≡ Some y) × (t ≡ Operation op x y)
node_tree-binary lower op a b t h =
    let left = and_then_some (λ l. option_map (Operation op l) (lower b)) (lower a) t h in
    let right = map_some (Operation op left.0) (lower b) t left.2 in
    (left.0, right.0, left.1, right.1, right.2)

pub node_tree-unary : (lower : ℕ → Option Tree) (f : Function) (a : ℕ) (t : Tree) →
    node_tree lower (node.Call f a None) ≡ Some t → (x : Tree) × (lower a ≡ Some x) × (t ≡ Unary f x)
node_tree-unary lower f a t h = map_some (Unary f) (lower a) t h

pub node_tree-dual : (lower : ℕ → Option Tree) (f : Function) (a b : ℕ) (t : Tree) →
    node_tree lower (node.Call f a (Some b)) ≡ Some t →
    (x : Tree) × (y : Tree) × (lower a ≡ Some x) × (lower b ≡ Some y) × (t ≡ Dual f x y)
node_tree-dual lower f a b t h =
    let left = and_then_some (λ l. option_map (Dual f l) (lower b)) (lower a) t h in
    let right = map_some (Dual f left.0) (lower b) t left.2 in
    (left.0, right.0, left.1, right.1, right.2)

-- the nodes of a tree give the tree back
pub tree_within-nodes_of : (t : Tree) (nodes : List Node) → nodes ≡ nodes_of t →
    tree_within (length nodes) nodes (length nodes - 1) ≡ Some t
unfolding tree_of
tree_within-nodes_of t nodes e = ap tree_of e ∙ tree_of-nodes_of t

pub nodes_of-some : (t : Tree) (nodes : List Node) → nodes ≡ nodes_of t → 0 < length nodes
unfolding nodes_of
nodes_of-some t nodes e = omega (arith, ap length e, length-nodes_from 0 t, size-positive t)

-- what was appended twice
pub joined : (old mid new a b : List ℕ) → mid ≡ old ++ a → new ≡ mid ++ b → new ≡ old ++ (a ++ b)
joined old mid new a b p q = q ∙ (ap (λ xs. xs ++ b) p ∙ append_assoc old a b)

-- a part is binary or signed where its node is
pub is_compound-node : (lower : ℕ → Option Tree) (nd : Node) (t : Tree) → node_tree lower nd ≡ Some t →
    is_compound t ≡ is_compound_node nd
is_compound-node lower (node.Number n) t h = let same : Literal n ≡ t = cc in rw (← same) refl
is_compound-node lower (node.Handle n) t h = let same : Held n ≡ t = cc in rw (← same) refl
is_compound-node lower (node.Negate a) t h = let part = node_tree-negate lower a t h in rw part.2 refl
is_compound-node lower (node.Binary op a b) t h = let part = node_tree-binary lower op a b t h in rw part.4 refl
is_compound-node lower (node.Call f a None) t h = let part = node_tree-unary lower f a t h in rw part.2 refl
is_compound-node lower (node.Call f a (Some b)) t h = let part = node_tree-dual lower f a b t h in rw part.4 refl

pub joined_three : (old o₁ o₂ new a b c : List ℕ) → o₁ ≡ old ++ a → o₂ ≡ o₁ ++ b → new ≡ o₂ ++ c → new ≡ old ++ (a ++ (b ++ c))
joined_three old o₁ o₂ new a b c p q r = joined old o₁ new a (b ++ c) p (joined o₁ o₂ new b c q r)

-- a call of one operand
pub joined_call : (old o₁ o₂ new f x : List ℕ) → o₁ ≡ old ++ (f ++ 40 ∷ []) → o₂ ≡ o₁ ++ x → new ≡ o₂ ++ 41 ∷ [] →
    new ≡ old ++ (f ++ (40 ∷ (x ++ 41 ∷ [])))
joined_call old o₁ o₂ new f x p q r =
    joined_three old o₁ o₂ new (f ++ 40 ∷ []) x (41 ∷ []) p q r ∙ ap (λ xs. old ++ xs) (append_assoc f (40 ∷ []) (x ++ 41 ∷ []))

-- a call of two operands
pub joined_dual : (old o₁ o₂ o₃ o₄ new f x y : List ℕ) → o₁ ≡ old ++ (f ++ 40 ∷ []) → o₂ ≡ o₁ ++ x → o₃ ≡ o₂ ++ 44 ∷ 32 ∷ [] →
    o₄ ≡ o₃ ++ y → new ≡ o₄ ++ 41 ∷ [] → new ≡ old ++ (f ++ (40 ∷ (x ++ (44 ∷ 32 ∷ (y ++ 41 ∷ [])))))
joined_dual old o₁ o₂ o₃ o₄ new f x y p q r s t =
    joined_three old o₁ o₂ new (f ++ 40 ∷ []) x (44 ∷ 32 ∷ (y ++ 41 ∷ [])) p q (joined_three o₂ o₃ o₄ new (44 ∷ 32 ∷ []) y (41 ∷ []) r s t)
    ∙ ap (λ xs. old ++ xs) (append_assoc f (40 ∷ []) (x ++ (44 ∷ 32 ∷ (y ++ 41 ∷ []))))
