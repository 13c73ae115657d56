use Rattle.std.proofs.Common.{refl}
use Rattle.hive_hall.proofs.Passes.{gives}
use Rattle.hive_hall.proofs.hall.Hall.leave.Goals as goal

pub returns : goal.returns
returns c =
    let it = c.release.ensures in
    gives c.args.self.now c.args.pass.now _ c.args.board c.requires it.pass.0 it.pass.1 it.rights it.seen it.own
    refl refl c.known.ensures.desk
