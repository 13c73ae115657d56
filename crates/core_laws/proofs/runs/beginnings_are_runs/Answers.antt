use Rattle.core_laws.proofs.States.{front-run}
use Rattle.core_laws.proofs.runs.beginnings_are_runs.Goals as goal

pub returns : goal.returns
returns c = front-run
