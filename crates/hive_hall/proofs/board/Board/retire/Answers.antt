use Rattle.hive_hall.proofs.Steps.{retires}
use Rattle.hive_hall.proofs.board.Board.retire.Goals as goal

pub returns : goal.returns
returns c =
    retires _ _ _ c.requires c.retire.ensures.desk c.args.self.now.inside c.retire.result c.retire.ensures.says
