use Rattle.event_laws.proofs.Forward.{forward-acyclic}
use Rattle.event_laws.proofs.valid_jobs.forward_is_acyclic.Goals as goal

pub returns : goal.returns
returns c = forward-acyclic
