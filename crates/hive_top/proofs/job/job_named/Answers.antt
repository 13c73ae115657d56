use Rattle.hive_top.proofs.Jobs.{job-over}
use Rattle.hive_top.proofs.job.job_named.Goals as goal

pub returns-in-Err-Over-clause-job : goal.returns-in-Err-Over-clause-job
returns-in-Err-Over-clause-job g c =
    let told = rw c.in-Err-Over.field-0-is at c.in-Err-Over.ensures.text in
    job-over c.args.name.now (g.F.Shelf.files c.args.shelf.now) c.fetch.new.out.items told
