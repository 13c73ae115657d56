use Rattle.parts_rows.proofs.Rooms.{opened-pools}
use Rattle.parts_rows.proofs.pools.opened.Goals as goal

pub returns : goal.returns
returns c = opened-pools c.args.job.now c.new.result c.new.ensures
