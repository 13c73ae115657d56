use Rattle.std.proofs.Common.{ap, arith, length}
use Rattle.hive_hall.proofs.Histories.{history-length}
use Rattle.hive_hall.proofs.board.BoardKept.items.Goals as goal

pub returns : goal.returns
returns c =
    omega (
      arith,
      history-length c.args.self.now.desk c.args.self.now.stop,
      c.stops_in.ensures,
      ap length c.journal.ensures.entries,
    )
