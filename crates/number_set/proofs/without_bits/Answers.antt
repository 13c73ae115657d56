use Rattle.number_set.proofs.Bits.{bits_without}
use Rattle.number_set.proofs.without_bits.Goals as goal

pub returns : goal.returns
returns c = λ n lt. bits_without c.args.word c.args.other n c.ranges.other.fits lt
