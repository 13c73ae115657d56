use Rattle.hive_top.proofs.Jobs.{reads-built, reads-refused, refused-of-text}
use Rattle.hive_top.proofs.job.job_of_text.Goals as goal

pub returns-in-Ok-clause-job : goal.returns-in-Ok-clause-job
returns-in-Ok-clause-job c = reads-built c.args.text.now c.in-Ok.job c.requires c.in-Ok.ensures.meaning

pub returns-in-Err-clause-job : goal.returns-in-Err-clause-job
returns-in-Err-clause-job c = rw c.stop_of.ensures (reads-refused c.args.text.now c.in-Err.refusal c.requires c.in-Err.ensures.meaning)

pub returns-in-Err-clause-of_text : goal.returns-in-Err-clause-of_text
returns-in-Err-clause-of_text c = rw c.stop_of.ensures (refused-of-text c.in-Err.refusal)
