use Rattle.top_laws.proofs.Complete.{run-due, run-end}
use Rattle.top_laws.proofs.run_is_complete.Goals as goal

pub returns-clause-due : goal.returns-clause-due
returns-clause-due c = run-due

pub returns-clause-end : goal.returns-clause-end
returns-clause-end c = run-end
