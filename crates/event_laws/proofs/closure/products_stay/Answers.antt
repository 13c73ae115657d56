use Rattle.event_laws.proofs.Staying.{stays-at}
use Rattle.event_laws.proofs.Stores.{product-stays}
use Rattle.event_laws.proofs.closure.products_stay.Goals as goal

pub returns : goal.returns
returns c job event ran others handle p h e = stays-at _ _ p (product-stays job event ran others handle h) e
