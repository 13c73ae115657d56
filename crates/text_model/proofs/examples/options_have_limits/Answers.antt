use Rattle.std.proofs.Common.{refl}
use Rattle.text_model.proofs.OnLiterals.{text_on_literals}
use Rattle.text_model.proofs.examples.options_have_limits.Goals as goal

pub returns-clause-name : goal.returns-clause-name
unfolding text_on_literals
returns-clause-name c = refl

pub returns-clause-long_name : goal.returns-clause-long_name
unfolding text_on_literals
returns-clause-long_name c = refl
