use Rattle.std.proofs.Common.{◌/◌, ◌%◌, ap, ◌∙◌}
use Rattle.number_set.specs.Numbers.{has, has_bit}
use Rattle.number_set.proofs.Bits.{bit_of_zero, no_words}
use Rattle.number_set.proofs.NumberSet.new.Goals as goal

pub returns : goal.returns
unfolding has
returns c = λ n. ap (λ w. has_bit w (n % 64)) (no_words 16 (n / 64)) ∙ bit_of_zero (n % 64)
