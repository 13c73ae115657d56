use Rattle.std.proofs.Common.{sym, ◌∙◌}
use Rattle.hive_hall.proofs.Steps.{claims, refuses}
use Rattle.hive_hall.proofs.board.Board.claim.Goals as goal

pub returns-then-is_some : goal.returns-then-is_some
returns-then-is_some c = refuses _ _ c.requires c.args.worker (sym c.is_some.ensures ∙ c.if-is_some.true)

pub returns : goal.returns
returns c =
    claims _ _ _ c.requires c.claim.ensures.desk c.args.self.now.inside c.args.worker c.claim.result
    (sym c.is_some.ensures ∙ c.if-is_some.false) c.claim.ensures.says
