use Rattle.std.proofs.Common.{◌/◌, ◌%◌, ap, arith}
use Rattle.number_set.specs.Numbers.{has}
use Rattle.number_set.proofs.Bits.{set_bit}
use Rattle.number_set.proofs.NumberSet.insert.Goals as goal

pub returns : goal.returns
unfolding has
returns c = λ n.
    set_bit c.args.self.now.words c.args.number c.with_bit.result (c.from-place.result / 64) (c.from.result % 64) n
    (ap (λ k. k / 64) c.from-place.ensures) (ap (λ k. k % 64) c.from.ensures) (omega arith) c.with_bit.ensures.same
    c.with_bit.ensures.others
