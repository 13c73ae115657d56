use Rattle.expr_text.proofs.Lookahead.Refusals.{refused-unexpected, refused-deep, refused-only}
use Rattle.expr_text.proofs.laws.refused_at_the_first_wrong_token.Goals as goal

pub returns : goal.returns
returns c = record { unexpected = refused-unexpected; deep = refused-deep; only = refused-only }
