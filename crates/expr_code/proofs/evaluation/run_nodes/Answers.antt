use Rattle.std.proofs.Common.{drop, sym, ap, ◌∙◌, arith, rules}
use Rattle.expr_code.proofs.Stacks.{after_more, after_fault, after_last, last_whole, never_empty, stack_in-push}
use Rattle.expr_code.specs.Frame.{products, seen_by}
use Rattle.expr_code.specs.Stack.{after_nodes, stack_in, operand_in}
use Rattle.expr_code.proofs.evaluation.run_nodes.Goals as goal

pub returns-in-Err-clause-value : goal.returns-in-Err-clause-value
returns-in-Err-clause-value c =
    after_fault (seen_by c.args.frame.now) c.args.nodes.now c.loop-node.node-index _ _ _ c.in_ok-fault.field-0
    c.in-Err.fault
    c.requires.order c.loop-node-test.true c.in_ok-fault.ensures.value c.in-Err.is c.loop-node.invariant.0

pub loop-node-preserved : goal.loop-node-preserved
loop-node-preserved c = (
  after_more (seen_by c.args.frame.now) c.args.nodes.now c.loop-node.node-index _ _ _ c.in_ok-fault.field-0
      c.in_default.field-0
      c.loop-node-test.true c.in_ok-fault.ensures.value c.in_default.is c.loop-node.invariant.0,
  omega (arith, c.in_ok-fault.ensures.one_more, c.loop-node.invariant.1),
  search rules,
)

pub unreachable-requires : goal.unreachable-requires
unreachable-requires c =
    let bare = ap (stack_in (products c.args.frame.now)) c.in-None.ensures.none in
    never_empty (seen_by c.args.frame.now) c.args.nodes.now c.loop-node.node-index c.requires.order
    c.loop-node-test.false
    (ap (after_nodes (seen_by c.args.frame.now) (drop c.loop-node.node-index c.args.nodes.now)) (sym bare) ∙ c.loop-node.invariant.0)

pub returns-clause-value : goal.returns-clause-value
returns-clause-value c =
    let held = products c.args.frame.now in
    let topped = ap (stack_in held) c.in-Some.ensures.some ∙ stack_in-push held c.pop.new.self.items c.in-Some.operand in
    after_last (seen_by c.args.frame.now) c.args.nodes.now c.loop-node.node-index (operand_in held c.in-Some.operand)
    (stack_in held c.pop.new.self.items)
    c.requires.order c.loop-node-test.false
    (ap (after_nodes (seen_by c.args.frame.now) (drop c.loop-node.node-index c.args.nodes.now)) (sym topped) ∙ c.loop-node.invariant.0)

pub returns-clause-sound : goal.returns-clause-sound
returns-clause-sound c =
    let held = products c.args.frame.now in
    let topped = ap (stack_in held) c.in-Some.ensures.some ∙ stack_in-push held c.pop.new.self.items c.in-Some.operand in
    last_whole (seen_by c.args.frame.now) c.args.nodes.now c.loop-node.node-index (operand_in held c.in-Some.operand)
    (stack_in held c.pop.new.self.items)
    c.requires.order c.loop-node-test.false
    (ap (after_nodes (seen_by c.args.frame.now) (drop c.loop-node.node-index c.args.nodes.now)) (sym topped) ∙ c.loop-node.invariant.0)
