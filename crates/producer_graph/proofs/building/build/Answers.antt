use Rattle.std.proofs.Common.{Err, ap, ◌∙◌}
use Rattle.std.proofs.lemmas.Result.{err_from_is_err_and}
use Rattle.producer_graph.proofs.Holding.{handles-refused, inputs-known, inputs-refused}
use Rattle.producer_graph.proofs.building.build.Goals as goal

pub returns-in_err-names-clause-meaning : goal.returns-in_err-names-clause-meaning
returns-in_err-names-clause-meaning c =
    let p = err_from_is_err_and c.from_residual.result c.from_residual.ensures.1 in
    handles-refused c.args.raws.now c.args.needs.now c.in_err-names.field-0.0 c.from_residual.result (p.1 ∙ ap Err p.2) c.in_err-names.ensures.err

pub returns-in_err-inputs-clause-meaning : goal.returns-in_err-inputs-clause-meaning
returns-in_err-inputs-clause-meaning c =
    let p = err_from_is_err_and c.from_residual-in_err-inputs.result c.from_residual-in_err-inputs.ensures.1 in
    inputs-refused c.args.raws.now c.args.needs.now c.in_ok-names.names c.in_err-inputs.field-0.0 c.from_residual-in_err-inputs.result
    (p.1 ∙ ap Err p.2) c.in_ok-names.ensures.ok.0 c.in_ok-names.ensures.ok.1 c.in_err-inputs.ensures.err

pub returns-clause-meaning : goal.returns-clause-meaning
returns-clause-meaning c = inputs-known c.args.raws.now c.args.needs.now c.in_ok-names.names c.build_graph.result c.in_ok-names.ensures.ok.0 c.in_ok-names.ensures.ok.1
    c.in_ok-inputs.ensures.ok.0 c.build_graph.ensures.meaning
