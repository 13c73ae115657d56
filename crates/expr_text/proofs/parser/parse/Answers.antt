use Rattle.std.proofs.Common.{arith}
use Rattle.expr_text.proofs.Building.Phases.{expr_of-long}
use Rattle.expr_text.proofs.parser.parse.Goals as goal

pub returns-then-text-gt-MOST_EXPRESSION_BYTES-clause-meaning : goal.returns-then-text-gt-MOST_EXPRESSION_BYTES-clause-meaning
returns-then-text-gt-MOST_EXPRESSION_BYTES-clause-meaning c =
    λ h. expr_of-long c.args.text.now c.args.names.now c.args.wanted (omega arith)
