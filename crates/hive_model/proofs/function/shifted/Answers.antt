use Rattle.std.proofs.Common.{sym, subst, ℤ, pos, get_or, FitsSigned, to_z-of_z, rules, ◌+ℤ◌}
use Rattle.std.specs.Int.{w64}
use Rattle.hive_model.proofs.Elementwise.{made-overflow, made-more, made-all}
use Rattle.hive_model.proofs.function.shifted.Goals as goal

pub returns-in-None : goal.returns-in-None
returns-in-None c =
    let offset : FitsSigned w64 c.args.offset.now = search rules in
    let number : FitsSigned w64 (get_or c.args.numbers.now c.loop-number.number-index (pos 0)) = search rules in
    made-overflow (λ x. x +ℤ c.args.offset.now) c.args.numbers.now c.loop-number.number-index c.loop-number-test.true (simp to_z-of_z at c.in-None.ensures)

pub loop-number-preserved : goal.loop-number-preserved
loop-number-preserved c =
    let f = λ (x : ℤ). x +ℤ c.args.offset.now in
    let offset : FitsSigned w64 c.args.offset.now = search rules in
    let number : FitsSigned w64 (get_or c.args.numbers.now c.loop-number.number-index (pos 0)) = search rules in
    let some = simp to_z-of_z at c.in-Some.ensures in
    let fits : FitsSigned w64 c.in-Some.sum = subst (FitsSigned w64) (sym some.1) some.0 in
    rw (c.in_ok-push-in-Some.ensures.items, to_z-of_z fits)
    (made-more f c.args.numbers.now c.loop-number.sums.items c.loop-number.number-index c.in-Some.sum c.loop-number-test.true c.loop-number.invariant some.1 some.0)

pub returns : goal.returns
returns c =
    rw c.from_vec.ensures (made-all (λ x. x +ℤ c.args.offset.now) c.args.numbers.now c.loop-number.sums.items c.loop-number.number-index c.loop-number-test.false c.loop-number.invariant)
