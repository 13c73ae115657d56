use Rattle.event_laws.proofs.Holding.{raw-place}
use Rattle.event_laws.proofs.event_store.raw_handles_in_the_store.Goals as goal

pub returns : goal.returns
returns c = raw-place
