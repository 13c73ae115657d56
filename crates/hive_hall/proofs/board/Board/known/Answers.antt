use Rattle.std.proofs.Common.{◌^◌, ◌+◌, ◌<◌, ap, arith, length, rules}
use Rattle.hive_hall.proofs.Histories.{history-length, stops-few}
use Rattle.hive_hall.proofs.board.Board.known.Goals as goal

pub returns-clause-fits : goal.returns-clause-fits
returns-clause-fits c =
    let few : length c.journal.result.now + 2 < 2 ^ 64 = search rules in
    omega (
      arith,
      history-length c.args.self.now.desk c.args.self.now.stop,
      stops-few c.args.self.now.stop,
      ap length c.journal.ensures.entries,
    )
