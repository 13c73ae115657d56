-- What makes a job valid. Everything that is said of an event is said of a valid job and a record that fits it.
use Rattle.std.specs.Prelude.{ℕ, ◌<◌, ◌≤◌, nat_eq, List, ◌++◌, length, map}
use Rattle.std.specs.List.{AllByRecursion, Contains, IsDistinct, flat_map}
use Rattle.hive_model.specs.Algorithm.{Algorithm}
use Rattle.hive_model.specs.ControlFlow.{IsMemberOf, all_members, member_sequences, leaves, IsNestedWithin}
use Rattle.hive_model.specs.Cut.{AreCutsClosed}
use Rattle.hive_model.specs.DataFlow.{AreNumberedFrom, Takes}
use Rattle.hive_model.specs.Handles.{handle_count}
use Rattle.hive_model.specs.Job.{Job}
use Rattle.hive_model.specs.Kinds.{HasExpressions}
use Rattle.hive_model.specs.Paths.{HasNoCycle}
use Rattle.hive_model.specs.Same.{same_text}
use Rattle.hive_model.specs.Sequence.{Sequence}
use Rattle.hive_model.specs.declared.algorithm.Output.{Output}
use Rattle.hive_model.specs.declared.algorithm.Raw.{Raw}
use Rattle.hive_model.specs.declared.algorithm.Resource.{Resource}
use Rattle.hive_model.specs.declared.limits.TheConstants.{MOST_ALGORITHMS, MOST_SEQUENCES, MOST_RESOURCES, MOST_HANDLES, MOST_LEAVES, MOST_DEPTH, MOST_INSTANCES, MOST_UNITS}
use Rattle.hive_model.specs.declared.sequence.Member.TheVariants.{Seq}

abbrev pub AreDistinctNames : List (List ℕ) → Type 0
AreDistinctNames names = IsDistinct same_text names

abbrev pub AreDistinctNumbers : List ℕ → Type 0
AreDistinctNumbers numbers = IsDistinct nat_eq numbers

-- algorithms and sequences share one set of names
abbrev pub member_names : Job → List (List ℕ)
member_names job = map (λ (a : Algorithm). a.name) job.algorithms ++ map (λ (q : Sequence). q.name) job.sequences

abbrev pub output_names : Algorithm → List (List ℕ)
output_names a = map (λ (o : Output). o.name) a.outputs

-- in handle order
abbrev pub handle_names : Job → List (List ℕ)
handle_names job = map (λ (r : Raw). r.name) job.raws ++ flat_map output_names job.algorithms

pub record IsWithinLimits (job : Job) : Type 0 where
  pub algorithms : length job.algorithms ≤ MOST_ALGORITHMS
  pub sequences : length job.sequences ≤ MOST_SEQUENCES
  pub resources : length job.resources ≤ MOST_RESOURCES
  pub handles : handle_count job ≤ MOST_HANDLES
  pub leaves : length (leaves job) ≤ MOST_LEAVES
  pub cardinalities : AllByRecursion (λ (a : Algorithm). a.cardinality ≤ MOST_INSTANCES) job.algorithms
  pub units : AllByRecursion (λ (r : Resource). (1 ≤ r.units) × (r.units ≤ MOST_UNITS)) job.resources

pub record IsValidJob (job : Job) : Type 0 where
  pub resource_names : AreDistinctNames (map (λ (r : Resource). r.name) job.resources)
  pub member_names_differ : AreDistinctNames (member_names job)
  pub handle_names_differ : AreDistinctNames (handle_names job)
  pub numbered : AreNumberedFrom (length job.raws) job.algorithms
  pub inputs : AllByRecursion (λ (a : Algorithm). AllByRecursion (λ h. h < handle_count job) a.inputs) job.algorithms
  pub inputs_differ : AllByRecursion (λ (a : Algorithm). AreDistinctNumbers a.inputs) job.algorithms
  pub resources : AllByRecursion (λ (a : Algorithm). AllByRecursion (λ r. r < length job.resources) a.resources) job.algorithms
  pub resources_differ : AllByRecursion (λ (a : Algorithm). AreDistinctNumbers a.resources) job.algorithms
  -- no algorithm waits for an output that waits for it
  pub acyclic : HasNoCycle (Takes job)
  pub expressions : AllByRecursion (HasExpressions job) job.algorithms
  pub members : AllByRecursion (IsMemberOf job) (all_members job.sequences)
  -- a sequence is a member at most once in all, and the top is a member of none
  pub forest : AreDistinctNumbers (member_sequences job)
  pub top_is_no_member : Contains (member_sequences job) job.top → ⊥
  pub top : job.top < length job.sequences
  -- no sequence is below itself, and none is too deep
  pub nested : (s : ℕ) → s < length job.sequences → IsNestedWithin MOST_DEPTH job.sequences (Seq s)
  pub cuts : AreCutsClosed job
  pub limits : IsWithinLimits job
