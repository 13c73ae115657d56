use Rattle.std.proofs.Common.{rules}
use Rattle.turn_lock.proofs.SeatSteps.{joins}
use Rattle.turn_lock.proofs.TicketSteps.{looks}
use Rattle.turn_lock.proofs.turn.Turn.join.Goals as goal

pub join_seat-requires : goal.join_seat-requires
join_seat-requires g c =
    let joined = joins g.V.Kept.list _ _ _ _ _ _ c.requires.pass.1.0 c.requires.other.1.0 in
    (search rules, search rules, search rules, search rules, joined)

pub load-requires : goal.load-requires
load-requires g c = (search rules, search rules, looks g.V.Kept.list _ _ _ _ _)
