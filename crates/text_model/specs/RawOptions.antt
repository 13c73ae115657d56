-- What an options text says, as contracts see it: its tables with the defaults filled in, and plain lists. Names aren't looked
-- up yet, and expressions are texts.
use Rattle.std.specs.Prelude.{ℕ, Bool, List, Option}
use Rattle.hive_model.specs.declared.algorithm.Raw.{Raw}
use Rattle.hive_model.specs.declared.algorithm.Resource.{Resource}
use Rattle.text_model.specs.declared.raw_options.RawOutput.{RawOutput}

pub record RawAlgorithm : Type 0 where
  pub name : List ℕ
  pub cardinality : ℕ
  pub resources : List (List ℕ)
  pub inputs : List (List ℕ)
  pub outputs : List RawOutput
  pub filter : Option (List ℕ)

pub record RawSequence : Type 0 where
  pub name : List ℕ
  pub members : List (List ℕ)
  pub mode_or : Bool
  pub short_circuit : Bool
  pub sequential : Bool
  pub invert : Bool
  pub ignore_filter : Bool
  pub cut : Bool

pub record RawOptions : Type 0 where
  pub version : ℕ
  pub top : List ℕ
  pub raws : List Raw
  pub resources : List Resource
  pub algorithms : List RawAlgorithm
  pub sequences : List RawSequence
