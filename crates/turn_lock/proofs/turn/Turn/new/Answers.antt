use Rattle.std.proofs.Common.{arith}
use Rattle.turn_lock.proofs.Ends.{opens}
use Rattle.turn_lock.proofs.turn.Turn.new.Goals as goal

pub new-requires : goal.new-requires
new-requires g c =
    opens g.V.Kept.list c.args.value _ _ _ _ _ c.of.ensures c.in-Ok.ensures.items c.push_reserved.ensures.items
    (omega arith) c.items-count.ensures c.requires.fits
