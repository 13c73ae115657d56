use Rattle.event_laws.proofs.Settling.{settles-value, decision-settles}
use Rattle.event_laws.proofs.Staying.{outcomes-within}
use Rattle.event_laws.proofs.closure.decisions_stay.Goals as goal

pub returns : goal.returns
returns c job ran others m h made = settles-value _ _ (decision-settles job _ _ m (outcomes-within ran others h)) made
