use Rattle.event_flow.proofs.Agreeing.{claim-same, count-same}
use Rattle.event_flow.proofs.laws.claims_of_an_event.Goals as goal

pub returns-clause-at : goal.returns-clause-at
returns-clause-at c = claim-same

pub returns-clause-count : goal.returns-clause-count
returns-clause-count c = count-same
