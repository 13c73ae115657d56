use Rattle.std.proofs.Common.{refl}
use Rattle.text_model.proofs.OnLiterals.{text_on_literals}
use Rattle.text_model.proofs.examples.numerals_end_at_64_bits.Goals as goal

pub returns-clause-greatest : goal.returns-clause-greatest
unfolding text_on_literals
returns-clause-greatest c = refl

pub returns-clause-above : goal.returns-clause-above
unfolding text_on_literals
returns-clause-above c = refl

pub returns-clause-least : goal.returns-clause-least
unfolding text_on_literals
returns-clause-least c = refl

pub returns-clause-plus : goal.returns-clause-plus
unfolding text_on_literals
returns-clause-plus c = refl
