use Rattle.event_laws.proofs.Nesting.{reached-sequence}
use Rattle.event_laws.proofs.nodes.reached_from_a_sequence.Goals as goal

pub returns : goal.returns
returns c = reached-sequence
