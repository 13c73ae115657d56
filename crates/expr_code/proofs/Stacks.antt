-- The nodes of a tree leave its value on the stack, or stop at its fault.
use Rattle.std.proofs.Common.{◌≡◌, ℕ, ◌+◌, ◌<◌, ◌≤◌, List, [], ◌∷◌, ◌++◌, Some, None, Result, Ok, Err, IsOk, length, map, get_or, drop, refl, sym, ap, ◌∙◌, append_assoc}
use Rattle.std.proofs.lemmas.List.{append-nil, drop_all, drop_more, reverse-append}
use Rattle.event_laws.proofs.Trees.{tree_of-nodes_of}
use Rattle.std.specs.Option.{option_map_or}
use Rattle.hive_model.specs.Call.{unfit, call_one, call_two}
use Rattle.hive_model.specs.Number.{Worth}
use Rattle.hive_model.specs.Runnable.{AreInOrder}
use Rattle.hive_model.specs.Tree.{Tree, Literal, Held, Minus, Operation, Unary, Dual, size, root, nodes_from, nodes_of}
use Rattle.hive_model.specs.Value.{and_then, negated, operated, value, value_of}
use Rattle.hive_model.specs.declared.expr.Node.{Node}
use Rattle.hive_model.specs.declared.expr.Node.TheVariants as node
use Rattle.hive_model.specs.declared.product.Product.{Product}
use Rattle.hive_model.specs.declared.outcome.Fault.{Fault}
use Rattle.hive_model.specs.declared.scratch.Operand.{Operand}
use Rattle.expr_code.specs.Stack.{Follows, operand_in, stack_in, with_top, over_one, over_two, after_node, going_on, after_nodes}

abbrev Bound : Type 0
Bound = List (ℕ × Product)

-- a node over one operand, or over two, behind the nodes that made them

after_one : (held : Bound) (n : Node) (rest : List Node) (k : Product → Worth) (w : Worth) (stack : List Worth) →
    ((below : List Worth) → after_node held n below ≡ over_one k below) →
    going_on (with_top w stack) (after_nodes held (n ∷ rest)) ≡ going_on (with_top (and_then w k) stack)
    (after_nodes held rest)
unfolding after_nodes
after_one held n rest k (Ok p) stack is = ap (λ it. going_on it (after_nodes held rest)) (is (Ok p ∷ stack))
after_one held n rest k (Err f) stack is = refl

after_second : (held : Bound) (n : Node) (rest : List Node) (k : Product → Product → Worth) (p : Product) (w : Worth)
    (stack : List Worth) →
    ((below : List Worth) → after_node held n below ≡ over_two k below) →
    going_on (with_top w (Ok p ∷ stack)) (after_nodes held (n ∷ rest)) ≡ going_on (with_top (and_then w (k p)) stack)
    (after_nodes held rest)
unfolding after_nodes
after_second held n rest k p (Ok q) stack is = ap (λ it. going_on it (after_nodes held rest)) (is (Ok q ∷ Ok p ∷ stack))
after_second held n rest k p (Err f) stack is = refl

after_two : (held : Bound) (right : List Node) (n : Node) (rest : List Node) (k : Product → Product → Worth)
    (l r : Worth) (stack : List Worth) →
    ((below : List Worth) → after_node held n below ≡ over_two k below) →
    ((below : List Worth) → after_nodes held (right ++ n ∷ rest) below ≡ going_on (with_top r below) (after_nodes held (n ∷ rest))) →
    going_on (with_top l stack) (after_nodes held (right ++ n ∷ rest)) ≡ going_on
    (with_top (and_then l (λ p. and_then r (k p))) stack) (after_nodes held rest)
after_two held right n rest k (Ok p) r stack is made = made (Ok p ∷ stack) ∙ after_second held n rest k p r stack is
after_two held right n rest k (Err f) r stack is made = refl

-- what stands between and behind, in one row

one_row : (own rest : List Node) (n : Node) → (own ++ n ∷ []) ++ rest ≡ own ++ n ∷ rest
one_row own rest n = append_assoc own (n ∷ []) rest

two_rows : (left right rest : List Node) (n : Node) → (left ++ (right ++ n ∷ [])) ++ rest ≡ left ++ (right ++ n ∷ rest)
two_rows left right rest n =
    append_assoc left (right ++ n ∷ []) rest ∙ ap (λ them. left ++ them) (append_assoc right (n ∷ []) rest)

pub after_tree : (held : Bound) (t : Tree) (from : ℕ) (rest : List Node) (stack : List Worth) →
    after_nodes held (nodes_from from t ++ rest) stack ≡ going_on (with_top (value held t) stack)
    (after_nodes held rest)
unfolding after_nodes after_node value
after_tree held (Literal n) from rest stack = refl
after_tree held (Held h) from rest stack = refl
after_tree held (Minus t) from rest stack =
    let own = nodes_from from t in
    let n = node.Negate (root from t) in
    ap (λ them. after_nodes held them stack) (one_row own rest n) ∙ after_tree held t from (n ∷ rest) stack
    ∙ after_one held n rest negated (value held t) stack (λ below. refl)
after_tree held (Operation op l r) from rest stack =
    let left = nodes_from from l in
    let right = nodes_from (from + size l) r in
    let n = node.Binary op (root from l) (root (from + size l) r) in
    ap (λ them. after_nodes held them stack) (two_rows left right rest n)
    ∙ after_tree held l from (right ++ n ∷ rest) stack
    ∙ after_two held right n rest (operated op) (value held l) (value held r) stack (λ below. refl)
    (λ below. after_tree held r (from + size l) (n ∷ rest) below)
after_tree held (Unary f t) from rest stack =
    let own = nodes_from from t in
    let n = node.Call f (root from t) None in
    ap (λ them. after_nodes held them stack) (one_row own rest n) ∙ after_tree held t from (n ∷ rest) stack
    ∙ after_one held n rest (call_one f) (value held t) stack (λ below. refl)
after_tree held (Dual f l r) from rest stack =
    let left = nodes_from from l in
    let right = nodes_from (from + size l) r in
    let n = node.Call f (root from l) (Some (root (from + size l) r)) in
    ap (λ them. after_nodes held them stack) (two_rows left right rest n)
    ∙ after_tree held l from (right ++ n ∷ rest) stack
    ∙ after_two held right n rest (call_two f) (value held l) (value held r) stack (λ below. refl)
    (λ below. after_tree held r (from + size l) (n ∷ rest) below)

going_nowhere : (held : Bound) (w : Worth) → going_on (with_top w []) (after_nodes held []) ≡ with_top w []
unfolding after_nodes
going_nowhere held (Ok p) = refl
going_nowhere held (Err f) = refl

-- the whole expression
pub after_all : (held : Bound) (nodes : List Node) → AreInOrder nodes →
    after_nodes held nodes [] ≡ with_top (value_of held nodes) []
unfolding nodes_of value_of
after_all held nodes h =
    let t = h.0 in
    let row = ap (λ them. after_nodes held them []) (h.1 ∙ sym (append-nil (nodes_from 0 t))) in
    let worth : value_of held nodes ≡ value held t = ap (value_of held) h.1 ∙ ap (λ it. option_map_or (value held) it unfit) (tree_of-nodes_of t) in
    row ∙ after_tree held t 0 [] [] ∙ going_nowhere held (value held t) ∙ ap (λ w. with_top w []) (sym worth)

-- the stack after a push

pub stack_in-push : (products : List Product) (items : List Operand) (it : Operand) →
    stack_in products (items ++ it ∷ []) ≡ operand_in products it ∷ stack_in products items
stack_in-push products items it = ap (map (operand_in products)) (reverse-append items (it ∷ []))

-- one node more of a list of nodes

goes_on : (after : Result (List Worth) Fault) (next : List Worth) (r : Result (Unit {0}) Fault) (u : Unit {0}) →
    Follows after next r → r ≡ Ok u → after ≡ Ok next
goes_on after next (Ok v) u h e = h
goes_on after next (Err f) u h e = cc

stops_at : (after : Result (List Worth) Fault) (next : List Worth) (r : Result (Unit {0}) Fault) (f : Fault) →
    Follows after next r → r ≡ Err f → after ≡ Err f
stops_at after next (Ok v) f h e = cc
stops_at after next (Err g) f h e = let same : g ≡ f = cc in h ∙ ap Err same

ahead : (held : Bound) (nodes : List Node) (index : ℕ) (d : Node) (stack : List Worth) → index < length nodes →
    after_nodes held (drop index nodes) stack ≡ going_on (after_node held (get_or nodes index d) stack)
    (after_nodes held (drop (index + 1) nodes))
unfolding after_nodes
ahead held nodes index d stack b = ap (λ them. after_nodes held them stack) (drop_more nodes index d b)

pub after_more : (held : Bound) (nodes : List Node) (index : ℕ) (d : Node) (stack next : List Worth)
    (r : Result (Unit {0}) Fault) (u : Unit {0}) →
    index < length nodes → Follows (after_node held (get_or nodes index d) stack) next r → r ≡ Ok u →
    after_nodes held (drop index nodes) stack ≡ after_nodes held nodes [] →
    after_nodes held (drop (index + 1) nodes) next ≡ after_nodes held nodes []
after_more held nodes index d stack next r u b follows is so_far =
    let made = goes_on (after_node held (get_or nodes index d) stack) next r u follows is in
    sym (ahead held nodes index d stack b ∙ ap (λ it. going_on it (after_nodes held (drop (index + 1) nodes))) made)
    ∙ so_far

fault_left : (w : Worth) (f : Fault) → with_top w [] ≡ Err f → Err f ≡ w
fault_left (Ok p) f e = cc
fault_left (Err g) f e = cc

pub after_fault : (held : Bound) (nodes : List Node) (index : ℕ) (d : Node) (stack next : List Worth)
    (r : Result (Unit {0}) Fault) (f : Fault) →
    AreInOrder nodes → index < length nodes → Follows (after_node held (get_or nodes index d) stack) next r →
    r ≡ Err f → after_nodes held (drop index nodes) stack ≡ after_nodes held nodes [] → Err f ≡ value_of held nodes
after_fault held nodes index d stack next r f order b follows is so_far =
    let made = stops_at (after_node held (get_or nodes index d) stack) next r f follows is in
    let stops = ahead held nodes index d stack b ∙ ap (λ it. going_on it (after_nodes held (drop (index + 1) nodes))) made in
    fault_left (value_of held nodes) f (sym (after_all held nodes order) ∙ sym so_far ∙ stops)

-- the last node is past

left_over : (w x : Worth) (below : List Worth) → with_top w [] ≡ Ok (x ∷ below) → x ≡ w
left_over (Ok p) x below e = cc
left_over (Err f) x below e = cc

left_whole : (w x : Worth) (below : List Worth) → with_top w [] ≡ Ok (x ∷ below) → IsOk x
left_whole (Ok p) x below e = let same : x ≡ Ok p = cc in rw same refl
left_whole (Err f) x below e = cc

nothing_left : (w : Worth) → with_top w [] ≡ Ok [] → ⊥
nothing_left (Ok p) e = cc
nothing_left (Err f) e = cc

at_end : (held : Bound) (nodes : List Node) (index : ℕ) (stack : List Worth) → AreInOrder nodes → length nodes ≤ index →
    after_nodes held (drop index nodes) stack ≡ after_nodes held nodes [] → with_top (value_of held nodes) [] ≡ Ok stack
unfolding after_nodes
at_end held nodes index stack order b so_far =
    sym (after_all held nodes order) ∙ sym so_far ∙ ap (λ them. after_nodes held them stack) (drop_all index nodes b)

pub after_last : (held : Bound) (nodes : List Node) (index : ℕ) (x : Worth) (below : List Worth) → AreInOrder nodes →
    length nodes ≤ index → after_nodes held (drop index nodes) (x ∷ below) ≡ after_nodes held nodes [] →
    x ≡ value_of held nodes
after_last held nodes index x below order b so_far =
    left_over (value_of held nodes) x below (at_end held nodes index (x ∷ below) order b so_far)

pub last_whole : (held : Bound) (nodes : List Node) (index : ℕ) (x : Worth) (below : List Worth) → AreInOrder nodes →
    length nodes ≤ index → after_nodes held (drop index nodes) (x ∷ below) ≡ after_nodes held nodes [] → IsOk x
last_whole held nodes index x below order b so_far =
    left_whole (value_of held nodes) x below (at_end held nodes index (x ∷ below) order b so_far)

pub never_empty : (held : Bound) (nodes : List Node) (index : ℕ) → AreInOrder nodes → length nodes ≤ index →
    after_nodes held (drop index nodes) [] ≡ after_nodes held nodes [] → ⊥
never_empty held nodes index order b so_far =
    nothing_left (value_of held nodes) (at_end held nodes index [] order b so_far)
