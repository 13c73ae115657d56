use Rattle.parts_rows.proofs.Rooms.{kept-lending}
use Rattle.parts_rows.proofs.pools.lent.Goals as goal

pub returns : goal.returns
returns c =
    kept-lending c.args.job.now c.args.pools.now c.lend.new.self c.args.algorithm c.args.place c.lend.result
    c.lend.ensures.says c.requires.pools
