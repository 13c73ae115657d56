use Rattle.std.proofs.Common.{rules}
use Rattle.turn_lock.proofs.TicketSteps.{draws}
use Rattle.turn_lock.proofs.turn.Turn.draw.Goals as goal

pub fetch_add-requires : goal.fetch_add-requires
fetch_add-requires g c = (search rules, search rules, draws g.V.Kept.list _ _ _ _ _ c.requires.idle c.requires.rights)
