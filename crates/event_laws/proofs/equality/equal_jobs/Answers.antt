use Rattle.event_laws.proofs.Same.{jobs}
use Rattle.event_laws.proofs.equality.equal_jobs.Goals as goal

pub returns : goal.returns
returns c = jobs
