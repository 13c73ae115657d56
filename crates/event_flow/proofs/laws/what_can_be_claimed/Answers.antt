use Rattle.event_flow.proofs.Agreeing.{claimable-same}
use Rattle.event_flow.proofs.laws.what_can_be_claimed.Goals as goal

pub returns : goal.returns
returns c = claimable-same
