use Rattle.std.proofs.Common.{◌/◌, ◌%◌, ap, arith}
use Rattle.number_set.specs.Numbers.{has}
use Rattle.number_set.proofs.Bits.{clear_bit}
use Rattle.number_set.proofs.NumberSet.remove.Goals as goal

pub returns : goal.returns
unfolding has
returns c = λ n.
    clear_bit c.args.self.now.words c.args.number c.without_bit.result (c.from-place.result / 64) (c.from.result % 64) n
    (ap (λ k. k / 64) c.from-place.ensures) (ap (λ k. k % 64) c.from.ensures) (omega arith) c.without_bit.ensures.same
    c.without_bit.ensures.others
