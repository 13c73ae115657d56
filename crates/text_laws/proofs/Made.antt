-- A job that the definition answers: what each phase gave.
use Rattle.std.proofs.Common.{codes, ◌≡◌, ◌≤◌, nat_lt, List, length, map, None, Ok}
use Rattle.hive_model.specs.Algorithm.{Algorithm}
use Rattle.hive_model.specs.Job.{Job}
use Rattle.hive_model.specs.declared.limits.TheConstants.{MOST_HANDLES}
use Rattle.text_model.specs.CutNodes.{cut_refusal}
use Rattle.text_model.specs.Forest.{Forest, forest_of}
use Rattle.text_model.specs.JobAlgorithms.{algorithms_from}
use Rattle.text_model.specs.JobNames.{algorithm_names, names_refusal}
use Rattle.text_model.specs.Jobs.{branch_of, job_of_raw, job_with, needs_of, raw_names, scope_of}
use Rattle.text_model.specs.Producers.{Graph, graph_of, handles_of}
use Rattle.text_model.specs.RawOptions.{RawOptions}
use Rattle.text_model.specs.Refusals.{of_graph, of_tree}
use Rattle.text_model.specs.Steps.{map_err}
use Rattle.text_model.specs.declared.job_refusal.JobRefusal.TheVariants.{Cut, Options}
use Rattle.text_model.specs.declared.options_refusal.OptionsRefusal.TheVariants.{Range}
use Rattle.text_laws.proofs.Built.{AreBuilt, algorithms-built}
use Rattle.text_laws.proofs.Looked.{AreLooked, names-looked}
use Rattle.text_laws.proofs.Planted.{IsPlanted, planted}
use Rattle.text_laws.proofs.Steps.{at-most, bound, let-through, passed, same-ok, untold}

pub record IsMade (raw : RawOptions) (graph : Graph) (algorithms : List Algorithm) (forest : Forest) : Type 0 where
  pub fit : length (handles_of (raw_names raw) (needs_of raw)) ≤ MOST_HANDLES
  pub looked : AreLooked raw
  pub drawn : graph_of (raw_names raw) (needs_of raw) ≡ Ok graph
  pub built : AreBuilt (scope_of raw graph) (length raw.raws) raw.algorithms algorithms
  pub planted : IsPlanted (algorithm_names raw) (map branch_of raw.sequences) forest
  pub uncut : cut_refusal (job_with raw algorithms forest) ≡ None

pub record IsTold (raw : RawOptions) (job : Job) : Type 0 where
  pub graph : Graph
  pub algorithms : List Algorithm
  pub forest : Forest
  pub made : IsMade raw graph algorithms forest
  pub is : job_with raw algorithms forest ≡ job

pub told : (raw : RawOptions) (job : Job) → job_of_raw raw ≡ Ok job → IsTold raw job
unfolding job_of_raw
told raw job e =
    let (few, one) = passed (nat_lt MOST_HANDLES (length (handles_of (raw_names raw) (needs_of raw)))) (Options (Range (codes "handle"))) _ job e in
    let (named, two) = let-through (λ r. r) (names_refusal raw) _ job one in
    let (graph, drawn, three) = bound (map_err of_graph (graph_of (raw_names raw) (needs_of raw))) _ job two in
    let (algorithms, built, four) = bound (algorithms_from (scope_of raw graph) 1 (length raw.raws) raw.algorithms) _ job three in
    let (forest, grown, five) = bound (map_err of_tree (forest_of (algorithm_names raw) (map branch_of raw.sequences) raw.top)) _ job four in
    let (uncut, six) = let-through Cut (cut_refusal (job_with raw algorithms forest)) _ job five in
    record {
      graph = graph;
      algorithms = algorithms;
      forest = forest;
      made = record {
        fit = at-most (length (handles_of (raw_names raw) (needs_of raw))) MOST_HANDLES few;
        looked = names-looked raw named;
        drawn = untold of_graph (graph_of (raw_names raw) (needs_of raw)) graph drawn;
        built = algorithms-built (scope_of raw graph) 1 (length raw.raws) raw.algorithms algorithms built;
        planted =
            planted (algorithm_names raw) (map branch_of raw.sequences) raw.top forest
            (untold of_tree (forest_of (algorithm_names raw) (map branch_of raw.sequences) raw.top) forest grown);
        uncut = uncut;
      };
      is = same-ok (job_with raw algorithms forest) job six;
    }
