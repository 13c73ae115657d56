use Rattle.event_laws.proofs.Entering.{top-reached, place-entered, place-member, place-waits}
use Rattle.event_laws.proofs.places.what_a_reached_node_enters.Goals as goal

pub returns : goal.returns
returns c = record { top = top-reached; enters = place-entered; members = place-member; waits = place-waits }
