-- The phases of a job's definition that end with the names that its algorithms speak of.
use Rattle.std.specs.Prelude.{Result, Ok}
use Rattle.text_model.specs.JobAlgorithms.{Scope}
use Rattle.text_model.specs.JobNames.{names_refusal}
use Rattle.text_model.specs.Jobs.{handles_fit, needs_of, raw_names, scope_of}
use Rattle.text_model.specs.Producers.{graph_of}
use Rattle.text_model.specs.RawOptions.{RawOptions}
use Rattle.text_model.specs.Refusals.{of_graph}
use Rattle.text_model.specs.Steps.{◌>>=◌, map_err, refuse_found}
use Rattle.text_model.specs.declared.job_refusal.JobRefusal.{JobRefusal}

unfoldable pub scope_read : RawOptions → Result Scope JobRefusal
scope_read raw = do
  few ← handles_fit raw
  named ← refuse_found (names_refusal raw)
  graph ← map_err of_graph (graph_of (raw_names raw) (needs_of raw))
  Ok (scope_of raw graph)
