use Rattle.std.proofs.Common.{refl}
use Rattle.text_model.proofs.Digits.{zero_text, one_text, three_text, four_text, seven_text, nine_text}
use Rattle.text_model.proofs.OnLiterals.{text_on_literals}
use Rattle.text_model.proofs.examples.a_whole_text_is_written.Goals as goal

pub returns-clause-long : goal.returns-clause-long
unfolding text_on_literals
returns-clause-long c = rw (zero_text, one_text, three_text, four_text, seven_text, nine_text) refl

pub returns-clause-brief : goal.returns-clause-brief
unfolding text_on_literals
returns-clause-brief c = rw (zero_text, one_text) refl
