use Rattle.std.proofs.Common.{◌<◌, ◌≤◌, length, get_or, map, sym, ap, ◌∙◌, arith, rules}
use Rattle.std.specs.Arc.{arc_value}
use Rattle.event_laws.proofs.Executions.{computed-fault, computed-all}
use Rattle.hive_model.specs.Execution.{seen}
use Rattle.hive_model.specs.Value.{value_of}
use Rattle.expr_code.proofs.Outputs.{computed-start, computed-next, if_ok}
use Rattle.expr_code.specs.Stack.{worth_in}
use Rattle.expr_code.proofs.executing.execute.Goals as goal

pub loop-number-init : goal.loop-number-init
loop-number-init c = (
  computed-start c.args.body.now (map arc_value c.args.inputs.now) (map arc_value c.in_ok-outputs.outputs.items)
      (ap (map arc_value) c.in_ok-outputs.ensures.items),
  c.requires.empty,
  search rules,
)

pub share-requires : goal.share-requires
share-requires c = if_ok _ c.in_ok-operand.field-0 c.in-Ok.operand c.in_ok-operand.ensures.sound c.in-Ok.is

pub returns-in-Err-clause-value : goal.returns-in-Err-clause-value
returns-in-Err-clause-value c =
    let a = c.args.body.now in
    let inputs = map arc_value c.args.inputs.now in
    let above = map arc_value c.loop-number.outputs.items in
    let o = c.output-item.result in
    let number = c.loop-number.number in
    let outputs = c.outputs-output-items.ensures in
    let within : number < length c.args.body.now.outputs = omega (arith, ap length outputs) in
    let worth =
    ap (λ them. value_of (seen a inputs (map arc_value them)) o.value) (sym c.as_slice.ensures)
    ∙ ap (value_of (seen a inputs (map arc_value c.as_slice.result.now))) (sym c.nodes.ensures)
    ∙ sym c.in_ok-operand.ensures.value ∙ ap (worth_in _) c.in-Err.is
    in
    c.failed.ensures
    ∙ computed-fault a inputs (seen a inputs above) above number o c.in-Err.fault within
    (c.output-item.is ∙ ap (λ them. get_or them number o) outputs) worth
    c.loop-number.invariant.0

pub loop-number-preserved : goal.loop-number-preserved
loop-number-preserved c =
    let a = c.args.body.now in
    let inputs = map arc_value c.args.inputs.now in
    let above = map arc_value c.loop-number.outputs.items in
    let o = c.output-item.result in
    let number = c.loop-number.number in
    let outputs = c.outputs-output-items.ensures in
    let p = arc_value c.in_ok-product-in-Ok.product in
    let within : number < length c.args.body.now.outputs = omega (arith, ap length outputs) in
    let worth =
    ap (λ them. value_of (seen a inputs (map arc_value them)) o.value) (sym c.as_slice.ensures)
    ∙ ap (value_of (seen a inputs (map arc_value c.as_slice.result.now))) (sym c.nodes.ensures)
    ∙ sym c.in_ok-operand.ensures.value ∙ ap (worth_in _) c.in-Ok.is
    ∙ c.in_ok-product-in-Ok.ensures
    in
    (computed-next a inputs above (map arc_value c.keep.new.outputs.items) number o p within (c.output-item.is ∙ ap (λ them. get_or them number o) outputs) worth c.in_ok-keep-in-Ok.ensures c.loop-number.invariant.0, c.in_ok-operand.ensures.empty, search rules)

pub returns-clause-value : goal.returns-clause-value
returns-clause-value c =
    let a = c.args.body.now in
    let inputs = map arc_value c.args.inputs.now in
    let above = map arc_value c.loop-number.outputs.items in
    let number = c.loop-number.number in
    let past : length c.args.body.now.outputs ≤ number = omega (arith, ap length c.outputs-output-items.ensures) in
    c.in_ok-filter.ensures.value
    ∙ computed-all a inputs (seen a inputs above) above number past c.loop-number.invariant.0
