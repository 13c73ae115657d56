use Rattle.event_laws.proofs.Stores.{length-store}
use Rattle.event_laws.proofs.event_store.size_of_the_store.Goals as goal

pub returns : goal.returns
returns c = length-store
