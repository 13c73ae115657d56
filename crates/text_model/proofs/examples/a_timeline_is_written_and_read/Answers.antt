use Rattle.std.proofs.Common.{refl}
use Rattle.text_model.proofs.Digits.{zero_text, one_text}
use Rattle.text_model.proofs.OnLiterals.{text_on_literals}
use Rattle.text_model.proofs.examples.a_timeline_is_written_and_read.Goals as goal

pub returns-clause-written : goal.returns-clause-written
unfolding text_on_literals
returns-clause-written c = rw (zero_text, one_text) refl

pub returns-clause-read : goal.returns-clause-read
unfolding text_on_literals
returns-clause-read c = refl

pub returns-clause-few : goal.returns-clause-few
unfolding text_on_literals
returns-clause-few c = refl

pub returns-clause-zero : goal.returns-clause-zero
unfolding text_on_literals
returns-clause-zero c = refl

pub returns-clause-open : goal.returns-clause-open
unfolding text_on_literals
returns-clause-open c = refl
