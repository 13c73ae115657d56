use Rattle.std.proofs.Common.{nat_eq, ap}
use Rattle.std.proofs.lemmas.Nat.Bits.{shr_and_one}
use Rattle.number_set.specs.Numbers.{has_bit}
use Rattle.number_set.proofs.has_bit.Goals as goal

pub returns : goal.returns
unfolding has_bit
returns c = ap (λ b. nat_eq b 1) (shr_and_one c.args.word c.args.bit)
