use Rattle.std.proofs.Common.{◌<◌, ◌≤◌, ◌+◌, [], ◌∷◌, ◌++◌, length, get_or, map, sym, ap, ◌∙◌, arith}
use Rattle.std.specs.Arc.{arc_value}
use Rattle.hive_model.specs.Algorithm.{Algorithm}
use Rattle.hive_model.specs.Value.{value_of}
use Rattle.serial_meaning.specs.Evaluation.{bound}
use Rattle.event_laws.proofs.Executions.{computed-none, computed-more, computed-fault, computed-all}
use Rattle.serial_meaning.proofs.executing.execute.Goals as goal

pub loop-number-init : goal.loop-number-init
loop-number-init c =
    rw (c.in_ok-held.ensures, c.inputs.ensures, c.new-outputs.ensures)
    (computed-none c.args.algorithm.now (map arc_value c.args.inputs.now))

pub returns-in-Err : goal.returns-in-Err
returns-in-Err c =
    let o = c.output-item.result in
    let number = c.loop-number.number in
    let outputs = c.outputs-output-items.ensures in
    let within : number < length c.args.algorithm.now.outputs = omega (arith, ap length outputs) in
    let worth =
    ap (λ them. value_of (map bound them) o.value) (sym c.as_slice.ensures.value)
    ∙ ap (value_of (map bound c.as_slice.result.now)) (sym c.nodes.ensures) ∙ sym c.in_ok-product.ensures ∙ c.in-Err.is
    in
    c.failed.ensures
    ∙ computed-fault c.args.algorithm.now (map arc_value c.args.inputs.now) (map bound c.loop-number.held.items)
    (map arc_value c.loop-number.outputs.items)
    number o c.in-Err.fault within (c.output-item.is ∙ ap (λ them. get_or them number o) outputs) worth
    c.loop-number.invariant

pub loop-number-preserved : goal.loop-number-preserved
loop-number-preserved c =
    let o = c.output-item.result in
    let number = c.loop-number.number in
    let outputs = c.outputs-output-items.ensures in
    let within : number < length c.args.algorithm.now.outputs = omega (arith, ap length outputs) in
    let worth =
    ap (λ them. value_of (map bound them) o.value) (sym c.as_slice.ensures.value)
    ∙ ap (value_of (map bound c.as_slice.result.now)) (sym c.nodes.ensures) ∙ sym c.in_ok-product.ensures ∙ c.in-Ok.is
    in
    let first = c.from.ensures ∙ ap (λ (a : Algorithm). a.first_output) c.algorithm.view_is in
    computed-more c.args.algorithm.now (map arc_value c.args.inputs.now) (map bound c.loop-number.held.items)
    (map bound c.keep.new.held.items)
    (map arc_value c.loop-number.outputs.items) (map arc_value c.keep.new.outputs.items) number o c.in-Ok.product within
    (c.output-item.is ∙ ap (λ them. get_or them number o) outputs) worth
    (c.in_ok-keep-in-Ok.ensures.held ∙ ap (λ k. map bound c.loop-number.held.items ++ (k + number, c.in-Ok.product) ∷ []) first)
    c.in_ok-keep-in-Ok.ensures.outputs c.loop-number.invariant

pub returns : goal.returns
returns c =
    let a = c.args.algorithm.now in
    let inputs = map arc_value c.args.inputs.now in
    let number = c.loop-number.number in
    let outputs = c.outputs-output-items.ensures in
    let past : length c.args.algorithm.now.outputs ≤ number = omega (arith, ap length outputs) in
    c.in_ok-filter.ensures inputs (ap (map bound) c.as_slice-2.ensures.value ∙ c.loop-number.invariant.held_is)
    ∙ computed-all a inputs (map bound c.loop-number.held.items) (map arc_value c.loop-number.outputs.items) number past
    c.loop-number.invariant
