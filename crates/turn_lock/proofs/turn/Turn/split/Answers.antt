use Rattle.std.proofs.Common.{rules}
use Rattle.turn_lock.proofs.SeatSteps.{splits}
use Rattle.turn_lock.proofs.turn.Turn.split.Goals as goal

pub split_seat-seat-requires : goal.split_seat-seat-requires
split_seat-seat-requires g c = (search rules, search rules, splits g.V.Kept.list _ _ _ _ c.requires.pass.1.0 (search rules))
