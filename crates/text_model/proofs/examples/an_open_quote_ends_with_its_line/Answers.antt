use Rattle.std.proofs.Common.{refl}
use Rattle.text_model.proofs.OnLiterals.{text_on_literals}
use Rattle.text_model.proofs.examples.an_open_quote_ends_with_its_line.Goals as goal

pub returns : goal.returns
unfolding text_on_literals
returns c = refl
