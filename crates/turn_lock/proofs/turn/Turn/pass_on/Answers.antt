use Rattle.std.proofs.Common.{rules}
use Rattle.turn_lock.proofs.TicketSteps.{passes}
use Rattle.turn_lock.proofs.turn.Turn.pass_on.Goals as goal

pub fetch_add-served-requires : goal.fetch_add-served-requires
fetch_add-served-requires g c = (search rules, search rules, passes g.V.Kept.list _ _ _ _ _ c.requires.holds)
