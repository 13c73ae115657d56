use Rattle.hive_hall.proofs.Steps.{backs}
use Rattle.hive_hall.proofs.board.Board.back.Goals as goal

pub returns : goal.returns
returns c =
    backs _ _ _ c.requires.desk c.back.ensures.desk c.args.self.now.inside c.args.value c.back.result
    c.back.ensures.says
