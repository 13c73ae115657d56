use Rattle.event_flow.proofs.Agreeing.{decisions-same, ends-same}
use Rattle.event_flow.proofs.laws.what_is_told.Goals as goal

pub returns-clause-decisions : goal.returns-clause-decisions
returns-clause-decisions c = decisions-same

pub returns-clause-ends : goal.returns-clause-ends
returns-clause-ends c = ends-same
