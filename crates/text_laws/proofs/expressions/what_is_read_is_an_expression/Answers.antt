use Rattle.text_laws.proofs.Reading.{expression-valid}
use Rattle.text_laws.proofs.expressions.what_is_read_is_an_expression.Goals as goal

pub returns : goal.returns
returns c = expression-valid
