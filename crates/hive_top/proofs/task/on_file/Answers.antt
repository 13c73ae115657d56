use Rattle.hive_top.proofs.task.on_file.Goals as goal

pub returns-in-Ok : goal.returns-in-Ok
returns-in-Ok g c =
    let reads = rw c.file_of.ensures at c.in-Ok.ensures.job in
    c.with_job.ensures _ _ _ _ reads c.in-Ok.ensures.count
