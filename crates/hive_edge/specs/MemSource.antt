-- A source in memory that fails where it is told to, as contracts see it: the bytes still to come, the most that one call
-- gives, and which calls fail.
use Rattle.std.specs.Prelude.{ℕ, List}
use Rattle.hive_edge.specs.Failing.{Failing}

pub record MemSource : Type 0 where
  pub rest : List ℕ
  pub piece : ℕ
  pub failing : Failing
