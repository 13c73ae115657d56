use Rattle.event_laws.proofs.Holding.{store-written}
use Rattle.event_laws.proofs.event_store.store_of_an_addition.Goals as goal

pub returns : goal.returns
returns c = store-written
