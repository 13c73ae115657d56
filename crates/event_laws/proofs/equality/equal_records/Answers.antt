use Rattle.event_laws.proofs.Same.{records}
use Rattle.event_laws.proofs.equality.equal_records.Goals as goal

pub returns : goal.returns
returns c = records
