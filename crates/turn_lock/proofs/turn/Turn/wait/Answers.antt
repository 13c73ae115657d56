use Rattle.std.proofs.Common.{rules}
use Rattle.turn_lock.proofs.TicketSteps.{looks}
use Rattle.turn_lock.proofs.turn.Turn.wait.Goals as goal

pub load-serving-requires : goal.load-serving-requires
load-serving-requires g c = (search rules, search rules, looks g.V.Kept.list _ _ _ _ _)
