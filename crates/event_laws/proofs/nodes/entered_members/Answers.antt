use Rattle.event_laws.proofs.Entered.{entered-rule}
use Rattle.event_laws.proofs.nodes.entered_members.Goals as goal

pub returns : goal.returns
returns c = entered-rule
