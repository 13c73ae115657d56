use Rattle.event_laws.proofs.Within.{closure-due}
use Rattle.event_laws.proofs.closure.closure_is_due.Goals as goal

pub returns : goal.returns
returns c = closure-due
