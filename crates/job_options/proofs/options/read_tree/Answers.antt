use Rattle.std.proofs.lemmas.Result.{err_from_is_err_and}
use Rattle.toml.specs.View.{table_view}
use Rattle.job_options.proofs.Trees.{top_refused, raws_refused, resources_refused, algorithms_refused, sequences_refused}
use Rattle.job_options.proofs.options.read_tree.Goals as goal

pub returns-in_err-visit_top : goal.returns-in_err-visit_top
returns-in_err-visit_top c =
    let p = err_from_is_err_and c.from_residual.result c.from_residual.ensures.1 in
    rw (p.1, p.2) (λ other. top_refused (table_view c.args.tree.now) _ (c.in_err-visit_top.ensures other))

pub returns-in_err-raws : goal.returns-in_err-raws
returns-in_err-raws c =
    let p = err_from_is_err_and c.from_residual-in_err-raws.result c.from_residual-in_err-raws.ensures.1 in
    rw (p.1, p.2) (λ other. raws_refused (table_view c.args.tree.now) _ c.in_ok-visit_top.ensures (c.in_err-raws.ensures other))

pub returns-in_err-resources : goal.returns-in_err-resources
returns-in_err-resources c =
    let p = err_from_is_err_and c.from_residual-in_err-resources.result c.from_residual-in_err-resources.ensures.1 in
    rw (p.1, p.2) (λ other. resources_refused (table_view c.args.tree.now) _ c.in_ok-visit_top.ensures c.in_ok-raws.ensures.0
    (c.in_err-resources.ensures other))

pub returns-in_err-algorithms : goal.returns-in_err-algorithms
returns-in_err-algorithms c =
    let p = err_from_is_err_and c.from_residual-in_err-algorithms.result c.from_residual-in_err-algorithms.ensures.1 in
    rw (p.1, p.2) (λ other. algorithms_refused (table_view c.args.tree.now) _ c.in_ok-visit_top.ensures c.in_ok-raws.ensures.0
    c.in_ok-resources.ensures.0 (c.in_err-algorithms.ensures other))

pub returns-in_err-sequences : goal.returns-in_err-sequences
returns-in_err-sequences c =
    let p = err_from_is_err_and c.from_residual-in_err-sequences.result c.from_residual-in_err-sequences.ensures.1 in
    rw (p.1, p.2) (λ other. sequences_refused (table_view c.args.tree.now) _ c.in_ok-visit_top.ensures c.in_ok-raws.ensures.0
    c.in_ok-resources.ensures.0 c.in_ok-algorithms.ensures.0 (c.in_err-sequences.ensures other))
