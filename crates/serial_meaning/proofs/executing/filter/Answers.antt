use Rattle.std.proofs.Common.{map, sym, ap, ◌∙◌}
use Rattle.std.specs.Arc.{arc_value}
use Rattle.hive_model.specs.Algorithm.{Algorithm}
use Rattle.hive_model.specs.Value.{value_of}
use Rattle.serial_meaning.specs.Evaluation.{bound}
use Rattle.event_laws.proofs.Executions.{filtered-none, filtered-ok, filtered-err}
use Rattle.serial_meaning.proofs.executing.filter.Goals as goal

pub returns-in_default : goal.returns-in_default
returns-in_default c =
    let filter = sym (ap (λ (a : Algorithm). a.filter) c.algorithm.view_is) ∙ c.in_default.is in
    λ inputs e. filtered-none c.args.algorithm.now inputs (map arc_value c.args.outputs.items) filter

pub returns-in-Ok : goal.returns-in-Ok
returns-in-Ok c =
    let filter = sym (ap (λ (a : Algorithm). a.filter) c.algorithm.view_is) ∙ c.in-Some.is in
    let worth = ap (value_of (map bound c.args.held.now)) (sym c.nodes.ensures) ∙ sym c.in_ok-product.ensures ∙ c.in-Ok.is in
    λ inputs e. c.passed.ensures
    ∙ filtered-ok c.args.algorithm.now inputs (map arc_value c.args.outputs.items) (map bound c.args.held.now) _
    c.in-Ok.product filter e worth

pub returns-in-Err : goal.returns-in-Err
returns-in-Err c =
    let filter = sym (ap (λ (a : Algorithm). a.filter) c.algorithm.view_is) ∙ c.in-Some.is in
    let worth = ap (value_of (map bound c.args.held.now)) (sym c.nodes.ensures) ∙ sym c.in_ok-product.ensures ∙ c.in-Err.is in
    λ inputs e. c.failed.ensures
    ∙ filtered-err c.args.algorithm.now inputs (map arc_value c.args.outputs.items) (map bound c.args.held.now) _
    c.in-Err.fault filter e worth
