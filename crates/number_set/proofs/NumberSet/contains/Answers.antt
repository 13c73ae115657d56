use Rattle.number_set.specs.Numbers.{has}
use Rattle.number_set.proofs.NumberSet.contains.Goals as goal

pub returns : goal.returns
unfolding has
returns c = cc
