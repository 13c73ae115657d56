use Rattle.hive_hall.proofs.Steps.{dones}
use Rattle.hive_hall.proofs.board.Board.done.Goals as goal

pub returns : goal.returns
returns c =
    dones _ _ _ c.requires.desk c.done.ensures.desk c.args.self.now.inside c.args.value c.done.result
    c.done.ensures.says
