use Rattle.std.proofs.Common.{refl}
use Rattle.hive_hall.proofs.Passes.{takes}
use Rattle.hive_hall.proofs.hall.Hall.enter.Goals as goal

pub returns : goal.returns
returns g c =
    let it = c.hold-board.ensures in
    takes c.args.self.now c.args.pass.now _ c.hold-board.result c.requires it.pass.0 it.pass.1 it.held it.prefix
    it.rights it.same.0 it.same.1 refl refl c.known.ensures.desk
