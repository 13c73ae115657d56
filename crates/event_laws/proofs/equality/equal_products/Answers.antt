use Rattle.event_laws.proofs.Same.{products}
use Rattle.event_laws.proofs.equality.equal_products.Goals as goal

pub returns : goal.returns
returns c = products
