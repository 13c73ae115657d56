use Rattle.std.proofs.Common.{refl}
use Rattle.text_model.proofs.OnLiterals.{text_on_literals}
use Rattle.text_model.proofs.examples.an_open_line_says_nothing.Goals as goal

pub returns-clause-open : goal.returns-clause-open
unfolding text_on_literals
returns-clause-open c = refl

pub returns-clause-none : goal.returns-clause-none
unfolding text_on_literals
returns-clause-none c = refl
