use Rattle.hive_top.proofs.task.with_job.Goals as goal

pub returns-in-Run : goal.returns-in-Run
returns-in-Run c = rw c.in-Run.is c.run_of.ensures
