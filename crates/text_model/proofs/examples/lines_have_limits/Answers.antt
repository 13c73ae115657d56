use Rattle.std.proofs.Common.{refl}
use Rattle.text_model.proofs.OnLiterals.{text_on_literals}
use Rattle.text_model.proofs.examples.lines_have_limits.Goals as goal

pub returns-clause-last : goal.returns-clause-last
unfolding text_on_literals
returns-clause-last c = refl

pub returns-clause-further : goal.returns-clause-further
unfolding text_on_literals
returns-clause-further c = refl

pub returns-clause-near : goal.returns-clause-near
unfolding text_on_literals
returns-clause-near c = refl

pub returns-clause-far : goal.returns-clause-far
unfolding text_on_literals
returns-clause-far c = refl
