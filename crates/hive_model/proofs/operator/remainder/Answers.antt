use Rattle.std.proofs.Common.{◌≡◌, FitsSigned, sym, ap, ◌∙◌, to_z-of_z, refl, int_rem, rules}
use Rattle.std.specs.Int.{w64}
use Rattle.hive_model.proofs.Numbers.{zero_word, nonzero_word, num-inside}
use Rattle.hive_model.specs.Number.{num}
use Rattle.hive_model.specs.Operator.{operation}
use Rattle.hive_model.proofs.operator.remainder.Goals as goal

pub returns-then-right-eq0 : goal.returns-then-right-eq0
unfolding operation
returns-then-right-eq0 c = rw (zero_word c.args.right c.ranges.right c.if-right-eq0.true) refl

pub returns : goal.returns
unfolding operation
returns c =
    let left : FitsSigned w64 c.args.left = c.ranges.left in
    let right : FitsSigned w64 c.args.right = c.ranges.right in
    let rest : FitsSigned w64 c.wrapping_rem.result = search rules in
    let is_rest : c.wrapping_rem.result ≡ int_rem c.args.left c.args.right = simp to_z-of_z at c.wrapping_rem.ensures in
    rw (nonzero_word c.args.right c.if-right-eq0.false, to_z-of_z rest) (sym (num-inside c.wrapping_rem.result rest) ∙ ap num is_rest)
