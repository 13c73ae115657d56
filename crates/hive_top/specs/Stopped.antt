-- The text and the status of what keeps a call from doing its work. Memory that ran out has a status alone.
use Rattle.std.specs.Prelude.{ℕ, List, []}
use Rattle.text_model.specs.Stops.{stop_options, stop_options_too_long, stop_shelf, stop_words}
use Rattle.text_model.specs.declared.job_refusal.JobRefusal.{JobRefusal}
use Rattle.text_model.specs.declared.job_refusal.JobRefusal.TheVariants as job
use Rattle.hive_top.specs.declared.status.Status.{Status}
use Rattle.hive_top.specs.declared.status.Status.TheVariants as status
use Rattle.hive_top.specs.declared.stop.Stop.{Stop}
use Rattle.hive_top.specs.declared.stop.Stop.TheVariants as stop

-- what stops a call where no job could be built
abbrev pub stop_at : JobRefusal → Stop
stop_at job.NoMemory = stop.NoMemory
stop_at refusal = stop.Options refusal

abbrev pub text_at : Stop → List ℕ
text_at stop.Words = stop_words
text_at stop.Shelf = stop_shelf
text_at stop.TooLong = stop_options_too_long
text_at (stop.Options refusal) = stop_options refusal
text_at stop.NoMemory = []

abbrev pub status_at : Stop → Status
status_at stop.Words = status.Words
status_at stop.Shelf = status.Input
status_at stop.TooLong = status.Options
status_at (stop.Options refusal) = status.Options
status_at stop.NoMemory = status.NoMemory
