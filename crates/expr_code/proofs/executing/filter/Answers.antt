use Rattle.std.proofs.Common.{map, sym, ap, ◌∙◌}
use Rattle.std.specs.Arc.{arc_value}
use Rattle.event_laws.proofs.Executions.{filtered-none}
use Rattle.hive_model.specs.Algorithm.{Algorithm}
use Rattle.hive_model.specs.Execution.{seen}
use Rattle.hive_model.specs.Value.{value_of}
use Rattle.expr_code.proofs.Outputs.{filtered-ruled, filtered-fault}
use Rattle.expr_code.proofs.executing.filter.Goals as goal

pub returns-in_default-clause-value : goal.returns-in_default-clause-value
returns-in_default-clause-value c =
    let filter = sym (ap (λ (a : Algorithm). a.filter) c.body.view_is) ∙ c.in_default.is in
    filtered-none c.args.body.now (map arc_value c.args.inputs.now) (map arc_value c.args.outputs.items) filter

pub returns-in-Ok-clause-value : goal.returns-in-Ok-clause-value
returns-in-Ok-clause-value c =
    let filter = sym (ap (λ (a : Algorithm). a.filter) c.body.view_is) ∙ c.in-Some.is in
    let inputs = map arc_value c.args.inputs.now in
    let worth =
    c.in_ok-worth.ensures.value
    ∙ ap (λ them. value_of (seen c.args.body.now inputs (map arc_value them)) c.nodes.result.now) c.as_slice.ensures
    ∙ ap (value_of (seen c.args.body.now inputs (map arc_value c.args.outputs.items))) c.nodes.ensures
    in
    filtered-ruled c.args.body.now inputs (map arc_value c.args.outputs.items) _ _ c.in-Ok.outcome filter worth
    c.in-Ok.ensures

pub returns-in-Err-clause-value : goal.returns-in-Err-clause-value
returns-in-Err-clause-value c =
    let filter = sym (ap (λ (a : Algorithm). a.filter) c.body.view_is) ∙ c.in-Some.is in
    let inputs = map arc_value c.args.inputs.now in
    let worth =
    c.in_ok-worth.ensures.value
    ∙ ap (λ them. value_of (seen c.args.body.now inputs (map arc_value them)) c.nodes.result.now) c.as_slice.ensures
    ∙ ap (value_of (seen c.args.body.now inputs (map arc_value c.args.outputs.items))) c.nodes.ensures
    in
    c.failed.ensures
    ∙ filtered-fault c.args.body.now inputs (map arc_value c.args.outputs.items) _ _ c.in-Err.fault filter worth
    c.in-Err.ensures
