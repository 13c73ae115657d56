use Rattle.event_laws.proofs.Additions.{additions-within}
use Rattle.event_laws.proofs.closure.additions_lie_within_the_closure.Goals as goal

pub returns : goal.returns
returns c = additions-within
