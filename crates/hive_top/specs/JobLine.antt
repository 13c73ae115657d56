-- What `check` says of a job: how many algorithms, sequences and handles it has.
use Rattle.std.specs.Prelude.{codes, decimal, ℕ, List, [], ◌∷◌, length}
use Rattle.hive_model.specs.Handles.{handle_count}
use Rattle.hive_model.specs.Job.{Job}
use Rattle.text_model.specs.Report.{line}

abbrev pub job_line : Job → List ℕ
job_line job =
    line (codes "job" ∷ decimal (length job.algorithms) ∷ codes "algorithms" ∷ decimal (length job.sequences) ∷ codes "sequences"
    ∷ decimal (handle_count job) ∷ codes "handles" ∷ [])
