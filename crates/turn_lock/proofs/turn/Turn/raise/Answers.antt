use Rattle.std.proofs.Common.{rules}
use Rattle.turn_lock.proofs.CountSteps.{raises}
use Rattle.turn_lock.proofs.turn.Turn.raise.Goals as goal

pub fetch_add-requires : goal.fetch_add-requires
fetch_add-requires g c = (search rules, search rules, raises g.V.Kept.list _ _ _ _ _ _ c.requires.holds)
