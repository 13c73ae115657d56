use Rattle.event_laws.proofs.Additions.{settled-additions}
use Rattle.event_laws.proofs.Within.{settled-closure, fixed-closure}
use Rattle.event_laws.proofs.closure.settled_is_the_closure.Goals as goal

pub returns : goal.returns
returns c = record { executions = settled-closure; fixed = fixed-closure; made = settled-additions }
