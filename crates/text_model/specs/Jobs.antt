-- The job of an options text, or the first refusal: the shape of its tables, the number of handles, names, producers, expressions,
-- the forest, and what is cut off, phase after phase. A phase is looked at only where those before found nothing.
use Rattle.std.specs.Prelude.{codes, ℕ, nat_lt, List, length, map, Result, Ok}
use Rattle.std.specs.List.{zip}
use Rattle.hive_model.specs.Algorithm.{Algorithm}
use Rattle.hive_model.specs.Job.{Job}
use Rattle.hive_model.specs.Sequence.{Sequence}
use Rattle.hive_model.specs.declared.algorithm.Raw.{Raw}
use Rattle.hive_model.specs.declared.limits.TheConstants.{MOST_HANDLES}
use Rattle.hive_model.specs.declared.sequence.Member.{Member}
use Rattle.text_model.specs.CutNodes.{cut_refusal}
use Rattle.text_model.specs.Forest.{Branch, Forest, forest_of}
use Rattle.text_model.specs.JobAlgorithms.{Scope, algorithms_from, raw_kinds}
use Rattle.text_model.specs.JobNames.{algorithm_names, names_refusal, resource_names}
use Rattle.text_model.specs.Language.{Language}
use Rattle.text_model.specs.Options.{read_of}
use Rattle.text_model.specs.Producers.{Graph, Need, graph_of, handles_of}
use Rattle.text_model.specs.RawOptions.{RawAlgorithm, RawOptions, RawSequence}
use Rattle.text_model.specs.Refusals.{of_graph, of_options, of_tree}
use Rattle.text_model.specs.Steps.{◌>>=◌, refuse_found, refuse_if, refuse_some, map_err}
use Rattle.text_model.specs.declared.job_refusal.JobRefusal.{JobRefusal}
use Rattle.text_model.specs.declared.job_refusal.JobRefusal.TheVariants.{Options, Cut}
use Rattle.text_model.specs.declared.options_refusal.OptionsRefusal.TheVariants.{Range}
use Rattle.text_model.specs.declared.raw_options.RawOutput.{RawOutput}

abbrev pub raw_names : RawOptions → List (List ℕ)
raw_names raw = map (λ (r : Raw). r.name) raw.raws

abbrev pub need_of : RawAlgorithm → Need
need_of a = record { name = a.name; inputs = a.inputs; outputs = map (λ (o : RawOutput). o.name) a.outputs }

abbrev pub needs_of : RawOptions → List Need
needs_of raw = map need_of raw.algorithms

abbrev pub branch_of : RawSequence → Branch
branch_of q = record { name = q.name; members = q.members }

abbrev pub sequence_with : RawSequence × List Member → Sequence
sequence_with (q, members) = record {
  name = q.name;
  members = members;
  mode_or = q.mode_or;
  short_circuit = q.short_circuit;
  sequential = q.sequential;
  invert = q.invert;
  ignore_filter = q.ignore_filter;
  cut = q.cut;
}

abbrev pub scope_of : RawOptions → Graph → Scope
scope_of raw graph = record { handles = graph.names; kinds = raw_kinds raw; resources = resource_names raw }

abbrev pub job_with : RawOptions → List Algorithm → Forest → Job
job_with raw algorithms forest = record {
  raws = raw.raws;
  resources = raw.resources;
  algorithms = algorithms;
  sequences = map sequence_with (zip raw.sequences forest.members);
  top = forest.top;
}

-- at most 1,024 handles in all
abbrev pub handles_fit : RawOptions → Result (Unit {0}) JobRefusal
handles_fit raw =
    refuse_if (nat_lt MOST_HANDLES (length (handles_of (raw_names raw) (needs_of raw)))) (Options (Range (codes "handle")))

unfoldable pub job_of_raw : RawOptions → Result Job JobRefusal
job_of_raw raw = do
  few ← handles_fit raw
  named ← refuse_found (names_refusal raw)
  graph ← map_err of_graph (graph_of (raw_names raw) (needs_of raw))
  algorithms ← algorithms_from (scope_of raw graph) 1 (length raw.raws) raw.algorithms
  forest ← map_err of_tree (forest_of (algorithm_names raw) (map branch_of raw.sequences) raw.top)
  closed ← refuse_some Cut (cut_refusal (job_with raw algorithms forest))
  Ok (job_with raw algorithms forest)

unfoldable pub job_of : Language → List ℕ → Result Job JobRefusal
job_of language bytes = map_err of_options (read_of language bytes) >>= job_of_raw
