use Rattle.std.proofs.Common.{◌∙◌}
use Rattle.hive_top.proofs.Generating.{fits-limit}
use Rattle.hive_top.proofs.task.generated_job.Goals as goal

pub job_of_text-requires : goal.job_of_text-requires
job_of_text-requires c = fits-limit _ (c.as_slice.ensures.value ∙ c.in-Ok.ensures)
