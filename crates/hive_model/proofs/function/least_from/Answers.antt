use Rattle.std.proofs.Common.{pos, get_or, FitsSigned, arith, rules}
use Rattle.std.specs.Int.{w64}
use Rattle.std.proofs.lemmas.Int.{to_z-of_z}
use Rattle.std.proofs.lemmas.List.Sums.{fold_more}
use Rattle.hive_model.proofs.function.least_from.Goals as goal

pub loop-number-preserved : goal.loop-number-preserved
loop-number-preserved c =
    let number : FitsSigned w64 (get_or c.args.rest.now c.loop-number.number-index (pos 0)) = search rules in
    grind (arith, to_z-of_z, fold_more)
