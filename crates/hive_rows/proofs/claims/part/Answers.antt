use Rattle.std.proofs.Common.{rules}
use Rattle.hive_model.specs.Tree.{Literal, Held, Operation, nodes_of}
use Rattle.hive_model.specs.declared.expr.Binary.TheVariants.{Div}
use Rattle.hive_rows.proofs.claims.part.Goals as goal

pub returns : goal.returns
unfolding nodes_of
returns c = (Operation Div (Held 0) (Literal c.args.divisor), search rules)
