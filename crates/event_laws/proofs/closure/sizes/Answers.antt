use Rattle.event_laws.proofs.Rounds.{length-round, length-closure}
use Rattle.event_laws.proofs.closure.sizes.Goals as goal

pub returns : goal.returns
returns c = record { round = length-round; closure = length-closure }
