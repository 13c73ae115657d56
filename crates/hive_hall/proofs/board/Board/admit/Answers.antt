use Rattle.hive_hall.proofs.Steps.{admits}
use Rattle.hive_hall.proofs.board.Board.admit.Goals as goal

pub returns : goal.returns
returns c =
    admits _ _ _ c.requires.desk c.admit.ensures.desk c.args.self.now.inside c.args.event c.admit.result
    c.admit.ensures.says
