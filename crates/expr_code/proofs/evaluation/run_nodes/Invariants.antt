use Rattle.std.proofs.Common.{◌≡◌, ◌≤◌, [], drop, length}
use Rattle.expr_code.specs.Frame.{products, seen_by}
use Rattle.expr_code.specs.Stack.{after_nodes, room, stack_in}
use Rattle.expr_code.proofs.evaluation.run_nodes.Given as goal

abbrev pub invariant-loop-node : goal.invariant-loop-node
invariant-loop-node l =
    (after_nodes (seen_by l.frame) (drop l.node-index l.nodes) (stack_in (products l.frame) l.stack.items) ≡ after_nodes (seen_by l.frame) l.nodes [])
    × (length l.stack.items ≤ l.node-index)
    × (room l.fn.stack ≤ room l.stack)
