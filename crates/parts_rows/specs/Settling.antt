-- A table of decisions and what a row keeps beside it: the job's sequences, and how its algorithms ended.
use Rattle.std.specs.Prelude.{◌≡◌, List, Option}
use Rattle.hive_model.specs.Job.{Job}
use Rattle.hive_model.specs.declared.outcome.Outcome.{Outcome}
use Rattle.decision_nodes.specs.Tree.{Tree}

abbrev pub IsForestOf : Job → Tree → List (Option Outcome) → Type 0
IsForestOf job table outcomes = (table.sequences ≡ job.sequences) × (outcomes ≡ table.outcomes)
