use Rattle.std.proofs.Common.{◌<◌, List, length, sym, subst, ap, arith}
use Rattle.std.specs.List.{AllByRecursion}
use Rattle.event_laws.proofs.Executions.{all_at}
use Rattle.hive_model.specs.Algorithm.{Algorithm}
use Rattle.hive_model.specs.Runnable.{CanPerform}
use Rattle.core_rows.proofs.made.algorithm_at.Goals as goal

pub returns-clause-performs : goal.returns-clause-performs
returns-clause-performs c =
    let all : AllByRecursion CanPerform c.algorithms.result.now =
    subst (λ (them : List Algorithm). AllByRecursion CanPerform them) (sym c.algorithms.ensures)
    (c.valid_is_runnable.ensures.performs c.args.job.now c.requires.valid) in
    let inside : c.from.result < length c.algorithms.result.now =
    omega (arith, c.from.ensures, ap length c.algorithms.ensures, c.requires.there) in
    all_at CanPerform c.algorithms.result.now c.from.result c.index-algorithms-from.result all inside
    c.index-algorithms-from.is
