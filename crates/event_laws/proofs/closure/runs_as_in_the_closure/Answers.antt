use Rattle.event_laws.proofs.Within.{runs-in_closure}
use Rattle.event_laws.proofs.closure.runs_as_in_the_closure.Goals as goal

pub returns : goal.returns
returns c = runs-in_closure
