use Rattle.event_laws.proofs.Nesting.{decision-sequence}
use Rattle.event_laws.proofs.nodes.decision_of_a_sequence.Goals as goal

pub returns : goal.returns
returns c = decision-sequence
