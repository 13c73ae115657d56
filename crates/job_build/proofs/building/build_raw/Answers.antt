use Rattle.std.proofs.Common.{Ok, ap, sym, ◌∙◌}
use Rattle.std.proofs.lemmas.Result.{err_from_is_err_and}
use Rattle.job_build.proofs.Phases.{algorithms-refused, forest-refused, job-built, scope-refused}
use Rattle.job_build.proofs.building.build_raw.Goals as goal

pub returns-in_err-scope : goal.returns-in_err-scope
returns-in_err-scope c =
    let p = err_from_is_err_and c.from_residual.result c.from_residual.ensures.1 in
    rw (p.1, p.2) (λ other. scope-refused c.args.raw _ (c.in_err-scope.ensures other))

pub returns-in_err-algorithms : goal.returns-in_err-algorithms
returns-in_err-algorithms c =
    let p = err_from_is_err_and c.from_residual-in_err-algorithms.result c.from_residual-in_err-algorithms.ensures.1 in
    rw (p.1, p.2) (λ other. algorithms-refused c.args.raw _ _ c.in_ok-scope.ensures (c.in_err-algorithms.ensures other))

pub returns-in_err-tree : goal.returns-in_err-tree
returns-in_err-tree c =
    let p = err_from_is_err_and c.from_residual-in_err-tree.result c.from_residual-in_err-tree.ensures.1 in
    rw (p.1, p.2) (λ other. forest-refused c.args.raw _ _ _ c.in_ok-scope.ensures c.in_ok-algorithms.ensures (c.in_err-tree.ensures other))

pub returns : goal.returns
returns c =
    job-built c.args.raw c.in_ok-scope.scope c.in_ok-algorithms.algorithms.items c.in_ok-tree.tree c.requires.uncut c.in_ok-scope.ensures
    c.in_ok-algorithms.ensures c.in_ok-tree.ensures
    ∙ ap Ok (sym c.in_ok-job.ensures)
