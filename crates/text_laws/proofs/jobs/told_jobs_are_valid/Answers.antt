use Rattle.text_laws.proofs.Valid.{told-valid}
use Rattle.text_laws.proofs.jobs.told_jobs_are_valid.Goals as goal

pub returns : goal.returns
returns c = told-valid
