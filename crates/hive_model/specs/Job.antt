-- A job as contracts see it: what is read, what is computed, and the forest of decision nodes with its top.
use Rattle.std.specs.Prelude.{ℕ, List}
use Rattle.hive_model.specs.Algorithm.{Algorithm}
use Rattle.hive_model.specs.Sequence.{Sequence}
use Rattle.hive_model.specs.declared.algorithm.Raw.{Raw}
use Rattle.hive_model.specs.declared.algorithm.Resource.{Resource}

pub record Job : Type 0 where
  pub raws : List Raw
  pub resources : List Resource
  pub algorithms : List Algorithm
  pub sequences : List Sequence
  pub top : ℕ
