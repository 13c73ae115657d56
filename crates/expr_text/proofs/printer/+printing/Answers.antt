use Rattle.std.proofs.Common.{◌≡◌, ◌++◌, ◌-◌, [], ◌∷◌, sym, ap, ◌∙◌, arith, rules, w64}
use Rattle.std.specs.Fmt.{signed_decimal}
use Rattle.std.specs.String.{string_bytes}
use Rattle.std.proofs.lemmas.Int.{to_z-of_z}
use Rattle.hive_model.specs.Tree.{Literal, Held, tree_within}
use Rattle.expr_text.specs.Printed.{enclosed, printed, operator_text, function_text}
use Rattle.expr_text.proofs.Printing.NodeLists.{tree_within-node, node_tree-negate, node_tree-binary, node_tree-unary, node_tree-dual, is_compound-node, joined, joined_three, joined_call, joined_dual}
use Rattle.expr_text.proofs.printer.+printing.Goals as goal

pub show-show_operand-requires : goal.show-show_operand-requires
show-show_operand-requires t c =
    let node = tree_within-node _ _ _ _ c.requires.0 c.requires.1 c.in-Negate.ensures.node in
    let part = node_tree-negate (tree_within (c.args.depth - 1) c.args.nodes.now) _ _ node in
    (omega arith, (part.0, rw c.from.ensures part.1))

pub show-show_operand-requires-in-Binary : goal.show-show_operand-requires-in-Binary
show-show_operand-requires-in-Binary t c =
    let node = tree_within-node _ _ _ _ c.requires.0 c.requires.1 c.in-Binary.ensures.node in
    let part = node_tree-binary (tree_within (c.args.depth - 1) c.args.nodes.now) _ _ _ _ node in
    (omega arith, (part.0, rw c.from-in-Binary.ensures part.2))

pub show-show_operand-requires-in-Binary-2 : goal.show-show_operand-requires-in-Binary-2
show-show_operand-requires-in-Binary-2 t c =
    let node = tree_within-node _ _ _ _ c.requires.0 c.requires.1 c.in-Binary.ensures.node in
    let part = node_tree-binary (tree_within (c.args.depth - 1) c.args.nodes.now) _ _ _ _ node in
    (omega arith, (part.1, rw c.from-in-Binary-2.ensures part.3))

pub show-returns-in_ok-write-in-Number : goal.show-returns-in_ok-write-in-Number
unfolding printed
show-returns-in_ok-write-in-Number t c = λ s h.
    let node = tree_within-node _ _ _ _ s h c.in-Number.ensures.node in
    let same : Literal c.in-Number.number ≡ s = cc in
    rw (← same) (c.in_ok-write-in-Number.ensures.bytes ∙ ap (λ n. string_bytes c.args.out.now ++ signed_decimal n) (to_z-of_z w64 c.in-Number.number (search rules)))

pub show-returns-in_ok-push_str-in-Handle : goal.show-returns-in_ok-push_str-in-Handle
unfolding printed
show-returns-in_ok-push_str-in-Handle t c = λ s h.
    let node = tree_within-node _ _ _ _ s h c.in-Handle.ensures.node in
    let same : Held c.in-Handle.handle ≡ s = cc in
    rw (← same) (rw c.word_of.ensures at c.in_ok-push_str-in-Handle.ensures.bytes)

pub show-returns-in_ok-show_operand-in-Negate : goal.show-returns-in_ok-show_operand-in-Negate
unfolding printed
show-returns-in_ok-show_operand-in-Negate t c = λ s h.
    let node = tree_within-node _ _ _ _ s h c.in-Negate.ensures.node in
    let part = node_tree-negate (tree_within (c.args.depth - 1) c.args.nodes.now) _ _ node in
    rw part.2 (joined _ _ _ _ _ c.in_ok-push_str-in-Negate.ensures.bytes (c.in_ok-show_operand-in-Negate.ensures part.0 (rw c.from.ensures part.1)))

pub show-returns-in_ok-show_operand-in-Binary-2 : goal.show-returns-in_ok-show_operand-in-Binary-2
unfolding printed
show-returns-in_ok-show_operand-in-Binary-2 t c = λ s h.
    let node = tree_within-node _ _ _ _ s h c.in-Binary.ensures.node in
    let part = node_tree-binary (tree_within (c.args.depth - 1) c.args.nodes.now) _ _ _ _ node in
    let names = c.args.names.now in
    rw part.4 (joined_three _ _ _ _ (enclosed part.0 (printed names part.0)) (operator_text c.in-Binary.operator) (enclosed part.1 (printed names part.1))
    (c.in_ok-show_operand-in-Binary.ensures part.0 (rw c.from-in-Binary.ensures part.2))
    (rw c.operator_text.ensures at c.in_ok-push_str-in-Binary.ensures.bytes)
    (c.in_ok-show_operand-in-Binary-2.ensures part.1 (rw c.from-in-Binary-2.ensures part.3)))

pub show-show_call-requires : goal.show-show_call-requires
show-show_call-requires t c =
    let node = tree_within-node _ _ _ _ c.requires.0 c.requires.1 c.in-Call.ensures.node in
    (omega arith, (c.requires.0, node))

pub show-returns-in-Call : goal.show-returns-in-Call
show-returns-in-Call t c = λ s h. c.show_call.ensures s (tree_within-node _ _ _ _ s h c.in-Call.ensures.node)

pub show_call-show-requires : goal.show_call-show-requires
show_call-show-requires t c =
    let part = node_tree-unary (tree_within c.args.depth c.args.nodes.now) _ _ _ (rw c.in-None.is at c.requires.1) in
    (omega arith, (part.0, rw c.from.ensures part.1))

pub show_call-show-requires-in-Some : goal.show_call-show-requires-in-Some
show_call-show-requires-in-Some t c =
    let part = node_tree-dual (tree_within c.args.depth c.args.nodes.now) _ _ _ _ (rw c.in-Some.is at c.requires.1) in
    (omega arith, (part.0, rw c.from-in-Some.ensures part.2))

pub show_call-show-requires-in-Some-2 : goal.show_call-show-requires-in-Some-2
show_call-show-requires-in-Some-2 t c =
    let part = node_tree-dual (tree_within c.args.depth c.args.nodes.now) _ _ _ _ (rw c.in-Some.is at c.requires.1) in
    (omega arith, (part.1, rw c.from-in-Some-2.ensures part.3))

pub show_call-returns-in_ok-push_str-in-None : goal.show_call-returns-in_ok-push_str-in-None
unfolding printed
show_call-returns-in_ok-push_str-in-None t c = λ s h.
    let part = node_tree-unary (tree_within c.args.depth c.args.nodes.now) _ _ s (rw c.in-None.is at h) in
    rw part.2 (joined_call _ _ _ _ (function_text c.args.function) (printed c.args.names.now part.0)
    c.in_ok-open_call.ensures
    (c.in_ok-show-in-None.ensures part.0 (rw c.from.ensures part.1))
    c.in_ok-push_str-in-None.ensures.bytes)

pub show_call-returns-in_ok-push_str-in-Some-2 : goal.show_call-returns-in_ok-push_str-in-Some-2
unfolding printed
show_call-returns-in_ok-push_str-in-Some-2 t c = λ s h.
    let part = node_tree-dual (tree_within c.args.depth c.args.nodes.now) _ _ _ s (rw c.in-Some.is at h) in
    rw part.4 (joined_dual _ _ _ _ _ _ (function_text c.args.function) (printed c.args.names.now part.0) (printed c.args.names.now part.1)
    c.in_ok-open_call.ensures
    (c.in_ok-show-in-Some.ensures part.0 (rw c.from-in-Some.ensures part.2))
    c.in_ok-push_str-in-Some.ensures.bytes
    (c.in_ok-show-in-Some-2.ensures part.1 (rw c.from-in-Some-2.ensures part.3))
    c.in_ok-push_str-in-Some-2.ensures.bytes)

pub show_operand-returns-in_ok-push_str-2 : goal.show_operand-returns-in_ok-push_str-2
show_operand-returns-in_ok-push_str-2 t c = λ s h.
    let node = tree_within-node _ _ _ _ s h c.node_at.ensures.node in
    let compound = is_compound-node (tree_within (c.args.depth - 1) c.args.nodes.now) _ s node ∙ sym c.if-is_compound.ensures in
    rw compound (joined_three _ _ _ _ (40 ∷ []) (printed c.args.names.now s) (41 ∷ [])
    c.in_ok-push_str.ensures.bytes (c.in_ok-show.ensures s h) c.in_ok-push_str-2.ensures.bytes)

pub show_operand-returns-in_ok-show-2 : goal.show_operand-returns-in_ok-show-2
show_operand-returns-in_ok-show-2 t c = λ s h.
    let node = tree_within-node _ _ _ _ s h c.node_at.ensures.node in
    let compound = is_compound-node (tree_within (c.args.depth - 1) c.args.nodes.now) _ s node ∙ sym c.if-is_compound.ensures in
    rw compound (c.in_ok-show-2.ensures s h)
