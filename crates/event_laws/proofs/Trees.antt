-- The tree of a tree's nodes is the tree.
use Rattle.std.proofs.Common.{◌≡◌, ℕ, zero, suc, ◌+◌, ◌-◌, ◌<◌, ◌≤◌, List, [], ◌∷◌, ◌++◌, Option, Some, None, length, slice_get, refl, sym, ap, ◌∙◌, append_assoc, length-append, arith}
use Rattle.std.specs.Option.{option_and_then, option_map}
use Rattle.std.proofs.lemmas.List.{append-nil}
use Rattle.hive_model.specs.Tree.{Tree, Literal, Held, Minus, Operation, Unary, Dual, size, root, nodes_from, nodes_of, node_tree, tree_within, tree_of}
use Rattle.hive_model.specs.declared.expr.Node.{Node}
use Rattle.hive_model.specs.declared.expr.Node.TheVariants as node

pub size-positive : (t : Tree) → 0 < size t
size-positive (Literal n) = omega arith
size-positive (Held h) = omega arith
size-positive (Minus t) = omega arith
size-positive (Operation op l r) = omega arith
size-positive (Unary f t) = omega arith
size-positive (Dual f l r) = omega arith

joined_length : (xs ys zs : List Node) (l r : ℕ) → length xs ≡ l → length ys ≡ r → length zs ≡ 1 → length (xs ++ (ys ++ zs)) ≡ l + r + 1
joined_length xs ys zs l r a b c = rw (length-append, length-append, a, b, c) (omega arith)

pub length-nodes_from : (from : ℕ) (t : Tree) → length (nodes_from from t) ≡ size t
length-nodes_from from (Literal n) = refl
length-nodes_from from (Held h) = refl
length-nodes_from from (Minus t) = rw (length-append, length-nodes_from from t) refl
length-nodes_from from (Operation op l r) =
    joined_length (nodes_from from l) (nodes_from (from + size l) r) _ (size l) (size r) (length-nodes_from from l) (length-nodes_from (from + size l) r) refl
length-nodes_from from (Unary f t) = rw (length-append, length-nodes_from from t) refl
length-nodes_from from (Dual f l r) =
    joined_length (nodes_from from l) (nodes_from (from + size l) r) _ (size l) (size r) (length-nodes_from from l) (length-nodes_from (from + size l) r) refl

-- the tree's nodes stand in the list from a place on
abbrev pub StandsAt : List Node → ℕ → Tree → Type 0
StandsAt nodes from (Literal n) = slice_get nodes from ≡ Some (node.Number n)
StandsAt nodes from (Held h) = slice_get nodes from ≡ Some (node.Handle h)
StandsAt nodes from (Minus t) = StandsAt nodes from t × (slice_get nodes (from + size t) ≡ Some (node.Negate (root from t)))
StandsAt nodes from (Operation op l r) =
    StandsAt nodes from l × StandsAt nodes (from + size l) r
    × (slice_get nodes (from + (size l + size r)) ≡ Some (node.Binary op (root from l) (root (from + size l) r)))
StandsAt nodes from (Unary f t) = StandsAt nodes from t × (slice_get nodes (from + size t) ≡ Some (node.Call f (root from t) None))
StandsAt nodes from (Dual f l r) =
    StandsAt nodes from l × StandsAt nodes (from + size l) r
    × (slice_get nodes (from + (size l + size r)) ≡ Some (node.Call f (root from l) (Some (root (from + size l) r))))

pub tree_within-node : (d : ℕ) (nodes : List Node) (place : ℕ) (n : Node) → slice_get nodes place ≡ Some n →
    tree_within (suc d) nodes place ≡ node_tree (tree_within d nodes) n
unfolding tree_within
tree_within-node d nodes place n e = ap (option_and_then (node_tree (tree_within d nodes))) e

-- the tree under a node, where the node stands at a place
at_root : (d : ℕ) (nodes : List Node) (place at : ℕ) (n : Node) (t : Tree) → place ≡ at → slice_get nodes at ≡ Some n →
    node_tree (tree_within d nodes) n ≡ Some t → tree_within (suc d) nodes place ≡ Some t
at_root d nodes place at n t p e h = ap (tree_within (suc d) nodes) p ∙ tree_within-node d nodes at n e ∙ h

two_trees : (make : Tree → Tree → Tree) (a b : Option Tree) (l r : Tree) → a ≡ Some l → b ≡ Some r →
    option_and_then (λ t. option_map (make t) b) a ≡ Some (make l r)
two_trees make a b l r p q = rw (p, q) refl

pub tree_within-stands : (t : Tree) (nodes : List Node) (from depth : ℕ) → StandsAt nodes from t → size t ≤ depth → tree_within depth nodes (root from t) ≡ Some t
tree_within-stands t nodes from zero s h = let some = size-positive t in absurd (omega arith)
tree_within-stands (Literal n) nodes from (suc d) s h = at_root d nodes _ from _ (Literal n) (omega arith) s refl
tree_within-stands (Held n) nodes from (suc d) s h = at_root d nodes _ from _ (Held n) (omega arith) s refl
tree_within-stands (Minus t) nodes from (suc d) s h =
    at_root d nodes _ (from + size t) _ (Minus t) (omega arith) s.1 (ap (option_map Minus) (tree_within-stands t nodes from d s.0 (omega arith)))
tree_within-stands (Operation op l r) nodes from (suc d) s h =
    at_root d nodes _ (from + (size l + size r)) _ (Operation op l r) (omega arith) s.2
    (two_trees (Operation op) _ _ l r (tree_within-stands l nodes from d s.0 (omega arith)) (tree_within-stands r nodes (from + size l) d s.1 (omega arith)))
tree_within-stands (Unary f t) nodes from (suc d) s h =
    at_root d nodes _ (from + size t) _ (Unary f t) (omega arith) s.1 (ap (option_map (Unary f)) (tree_within-stands t nodes from d s.0 (omega arith)))
tree_within-stands (Dual f l r) nodes from (suc d) s h =
    at_root d nodes _ (from + (size l + size r)) _ (Dual f l r) (omega arith) s.2
    (two_trees (Dual f) _ _ l r (tree_within-stands l nodes from d s.0 (omega arith)) (tree_within-stands r nodes (from + size l) d s.1 (omega arith)))

slice_get-middle : (xs : List Node) (x : Node) (ys : List Node) → slice_get (xs ++ x ∷ ys) (length xs) ≡ Some x
slice_get-middle [] x ys = refl
slice_get-middle (y ∷ xs) x ys = slice_get-middle xs x ys

node_at : (nodes xs ys : List Node) (x : Node) (k : ℕ) → nodes ≡ xs ++ x ∷ ys → k ≡ length xs → slice_get nodes k ≡ Some x
node_at nodes xs ys x k e h = ap (slice_get nodes) h ∙ ap (λ them. slice_get them (length xs)) e ∙ slice_get-middle xs x ys

-- regroupings of what stands before, between and behind
one_last : (nodes front mid rest : List Node) (x : Node) → nodes ≡ front ++ ((mid ++ x ∷ []) ++ rest) → nodes ≡ front ++ (mid ++ (x ∷ rest))
one_last nodes front mid rest x e = e ∙ ap (λ them. front ++ them) (append_assoc mid (x ∷ []) rest)

one_split : (nodes front mid rest : List Node) (x : Node) → nodes ≡ front ++ (mid ++ (x ∷ rest)) → nodes ≡ (front ++ mid) ++ x ∷ rest
one_split nodes front mid rest x e = e ∙ sym (append_assoc front mid (x ∷ rest))

two_last : (nodes front l r rest : List Node) (x : Node) → nodes ≡ front ++ ((l ++ (r ++ x ∷ [])) ++ rest) → nodes ≡ front ++ (l ++ (r ++ (x ∷ rest)))
two_last nodes front l r rest x e =
    e ∙ ap (λ them. front ++ them) (append_assoc l (r ++ x ∷ []) rest ∙ ap (λ them. l ++ them) (append_assoc r (x ∷ []) rest))

two_split : (nodes front l rest : List Node) → nodes ≡ front ++ (l ++ rest) → nodes ≡ (front ++ l) ++ rest
two_split nodes front l rest e = e ∙ sym (append_assoc front l rest)

past : (front mid : List Node) (from n : ℕ) → from ≡ length front → length mid ≡ n → from + n ≡ length (front ++ mid)
past front mid from n e h = rw (length-append, h, e) refl

pub stands : (t : Tree) (nodes front rest : List Node) (from : ℕ) → from ≡ length front → nodes ≡ front ++ (nodes_from from t ++ rest) → StandsAt nodes from t
stands (Literal n) nodes front rest from e h = node_at nodes front rest _ from h e
stands (Held n) nodes front rest from e h = node_at nodes front rest _ from h e
stands (Minus t) nodes front rest from e h =
    let own = nodes_from from t in
    let n = node.Negate (root from t) in
    let k = one_last nodes front own rest n h in
    (stands t nodes front (n ∷ rest) from e k, node_at nodes (front ++ own) rest n (from + size t) (one_split nodes front own rest n k) (past front own from (size t) e (length-nodes_from from t)))
stands (Operation op l r) nodes front rest from e h =
    let left = nodes_from from l in
    let right = nodes_from (from + size l) r in
    let n = node.Binary op (root from l) (root (from + size l) r) in
    let all = two_last nodes front left right rest n h in
    let behind = two_split nodes front left (right ++ n ∷ rest) all in
    let next = past front left from (size l) e (length-nodes_from from l) in
    let last = past (front ++ left) right (from + size l) (size r) next (length-nodes_from (from + size l) r) in (
      stands l nodes front (right ++ n ∷ rest) from e all,
      stands r nodes (front ++ left) (n ∷ rest) (from + size l) next behind,
      node_at nodes ((front ++ left) ++ right) rest n (from + (size l + size r)) (one_split nodes (front ++ left) right rest n behind) (omega (arith, last)),
    )
stands (Unary f t) nodes front rest from e h =
    let own = nodes_from from t in
    let n = node.Call f (root from t) None in
    let k = one_last nodes front own rest n h in
    (stands t nodes front (n ∷ rest) from e k, node_at nodes (front ++ own) rest n (from + size t) (one_split nodes front own rest n k) (past front own from (size t) e (length-nodes_from from t)))
stands (Dual f l r) nodes front rest from e h =
    let left = nodes_from from l in
    let right = nodes_from (from + size l) r in
    let n = node.Call f (root from l) (Some (root (from + size l) r)) in
    let all = two_last nodes front left right rest n h in
    let behind = two_split nodes front left (right ++ n ∷ rest) all in
    let next = past front left from (size l) e (length-nodes_from from l) in
    let last = past (front ++ left) right (from + size l) (size r) next (length-nodes_from (from + size l) r) in (
      stands l nodes front (right ++ n ∷ rest) from e all,
      stands r nodes (front ++ left) (n ∷ rest) (from + size l) next behind,
      node_at nodes ((front ++ left) ++ right) rest n (from + (size l + size r)) (one_split nodes (front ++ left) right rest n behind) (omega (arith, last)),
    )

pub tree_of-nodes_of : (t : Tree) → tree_of (nodes_of t) ≡ Some t
unfolding tree_of nodes_of
tree_of-nodes_of t =
    let nodes = nodes_from 0 t in
    let here = stands t nodes [] [] 0 refl (sym (append-nil nodes)) in
    let last : size t - 1 ≡ root 0 t = omega arith in
    ap (λ n. tree_within n nodes (n - 1)) (length-nodes_from 0 t) ∙ ap (tree_within (size t) nodes) last
    ∙ tree_within-stands t nodes 0 (size t) here (omega arith)
