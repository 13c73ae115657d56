use Rattle.hive_hall.proofs.Steps.{lasts}
use Rattle.hive_hall.proofs.board.Board.last.Goals as goal

pub returns : goal.returns
returns c =
    lasts _ _ _ c.requires c.last.ensures.desk c.args.self.now.inside c.last.result c.last.ensures.says
