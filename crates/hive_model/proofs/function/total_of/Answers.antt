use Rattle.std.proofs.Common.{◌≡◌, pos, get_or, FitsSigned, sym, ap, ◌∙◌, arith, rules}
use Rattle.std.specs.Int.{w64}
use Rattle.std.proofs.lemmas.Int.{ints, to_z-of_z}
use Rattle.std.proofs.lemmas.List.{take_all}
use Rattle.std.proofs.lemmas.List.Sums.{fold_more}
use Rattle.hive_model.proofs.Numbers.{num-word, num-outside}
use Rattle.hive_model.specs.Call.{total}
use Rattle.hive_model.proofs.function.total_of.Goals as goal

pub loop-number-preserved : goal.loop-number-preserved
loop-number-preserved c =
    let number : FitsSigned w64 (get_or c.args.numbers.now c.loop-number.number-index (pos 0)) = search rules in
    (grind (arith, ints, to_z-of_z, fold_more), omega (arith, ints), omega (arith, ints))

pub returns-in-Ok : goal.returns-in-Ok
returns-in-Ok c =
    let whole = take_all c.loop-number.number-index c.args.numbers.now c.loop-number-test.false in
    let same : c.in-Ok.sum ≡ total c.args.numbers.now = c.in-Ok.ensures.1 ∙ c.loop-number.invariant.0 ∙ ap total whole in
    num-word c.in-Ok.sum (total c.args.numbers.now) (search rules) same

pub returns-in-Err : goal.returns-in-Err
returns-in-Err c =
    let whole = take_all c.loop-number.number-index c.args.numbers.now c.loop-number-test.false in
    let same = c.loop-number.invariant.0 ∙ ap total whole in
    sym (num-outside (total c.args.numbers.now) (λ h. c.in-Err.ensures (rw same h)))
