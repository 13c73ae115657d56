use Rattle.event_laws.proofs.Uncut.{uncut-closure, uncut-result}
use Rattle.event_laws.proofs.closure.settled_without_cut_nodes.Goals as goal

pub returns : goal.returns
returns c = record { executions = uncut-closure; result = uncut-result }
