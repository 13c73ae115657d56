use Rattle.event_flow.proofs.Following.{begun-of_job, completed-of_job, event-of_job}
use Rattle.event_flow.proofs.laws.flows_are_of_their_job.Goals as goal

pub returns-clause-begun : goal.returns-clause-begun
returns-clause-begun c = begun-of_job

pub returns-clause-completed : goal.returns-clause-completed
returns-clause-completed c = completed-of_job

pub returns-clause-events : goal.returns-clause-events
returns-clause-events c = event-of_job
