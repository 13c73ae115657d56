use Rattle.top_laws.proofs.Complete.{same-bulk, same-due}
use Rattle.top_laws.proofs.concurrency_changes_nothing.Goals as goal

pub returns-clause-run : goal.returns-clause-run
returns-clause-run c = same-due

pub returns-clause-bulk : goal.returns-clause-bulk
returns-clause-bulk c = same-bulk
