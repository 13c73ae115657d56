use Rattle.event_flow.proofs.Agreeing.{settled-same}
use Rattle.event_flow.proofs.laws.what_is_settled.Goals as goal

pub returns : goal.returns
returns c = settled-same
