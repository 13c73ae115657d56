-- What holds of raw options that were read, and has to hold of those that a job is made of: names are names, and numbers and
-- lists are within the limits of their version.
use Rattle.std.specs.Prelude.{ℕ, ◌≤◌, List, length, IsTrue}
use Rattle.std.specs.List.{AllByRecursion}
use Rattle.hive_model.specs.declared.algorithm.Raw.{Raw}
use Rattle.hive_model.specs.declared.algorithm.Resource.{Resource}
use Rattle.hive_model.specs.declared.limits.TheConstants.{MOST_SEQUENCES, MOST_RESOURCES, MOST_HANDLES, MOST_INSTANCES, MOST_UNITS}
use Rattle.text_model.specs.Names.{is_name}
use Rattle.text_model.specs.RawOptions.{RawAlgorithm, RawOptions, RawSequence}
use Rattle.text_model.specs.Tables.{most_algorithms}
use Rattle.text_model.specs.declared.limits.TheConstants.{FIRST_VERSION, SECOND_VERSION, MOST_MEMBERS}
use Rattle.text_model.specs.declared.raw_options.RawOutput.{RawOutput}

abbrev pub IsName : List ℕ → Type 0
IsName text = IsTrue (is_name text)

-- at most so many names
pub record AreNames (most : ℕ) (texts : List (List ℕ)) : Type 0 where
  pub few : length texts ≤ most
  pub names : AllByRecursion IsName texts

abbrev pub IsResource : Resource → Type 0
IsResource r = IsName r.name × (1 ≤ r.units) × (r.units ≤ MOST_UNITS)

pub record IsAlgorithm (a : RawAlgorithm) : Type 0 where
  pub name : IsName a.name
  pub cardinality : a.cardinality ≤ MOST_INSTANCES
  pub inputs : AreNames MOST_HANDLES a.inputs
  pub resources : AreNames MOST_RESOURCES a.resources
  pub few : length a.outputs ≤ MOST_HANDLES
  pub outputs : AllByRecursion (λ (o : RawOutput). IsName o.name) a.outputs

pub record IsSequence (q : RawSequence) : Type 0 where
  pub name : IsName q.name
  pub members : AreNames MOST_MEMBERS q.members

pub record HasShape (raw : RawOptions) : Type 0 where
  pub first : FIRST_VERSION ≤ raw.version
  pub last : raw.version ≤ SECOND_VERSION
  pub top : IsName raw.top
  pub few_raws : length raw.raws ≤ MOST_HANDLES
  pub raws : AllByRecursion (λ (r : Raw). IsName r.name) raw.raws
  pub few_resources : length raw.resources ≤ MOST_RESOURCES
  pub resources : AllByRecursion IsResource raw.resources
  pub few_algorithms : length raw.algorithms ≤ most_algorithms raw.version
  pub algorithms : AllByRecursion IsAlgorithm raw.algorithms
  pub few_sequences : length raw.sequences ≤ MOST_SEQUENCES
  pub sequences : AllByRecursion IsSequence raw.sequences
