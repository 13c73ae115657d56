use Rattle.event_laws.proofs.Fixed.{closure-fixed}
use Rattle.event_laws.proofs.Within.{closure-settled}
use Rattle.event_laws.proofs.closure.closure_is_fixed.Goals as goal

pub returns : goal.returns
returns c = record { fixed = closure-fixed; settled = closure-settled }
