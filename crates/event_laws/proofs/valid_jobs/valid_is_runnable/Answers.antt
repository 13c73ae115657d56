use Rattle.event_laws.proofs.Validity.{valid-performs, valid-runnable, performs-executes}
use Rattle.event_laws.proofs.valid_jobs.valid_is_runnable.Goals as goal

pub returns-clause-runnable : goal.returns-clause-runnable
returns-clause-runnable c = valid-runnable

pub returns-clause-performs : goal.returns-clause-performs
returns-clause-performs c = valid-performs

pub returns-clause-executes : goal.returns-clause-executes
returns-clause-executes c = performs-executes
