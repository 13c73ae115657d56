-- A sink in memory that fails where it is told to, as contracts see it: what it got, how many bytes it still has room for,
-- the most that one call takes, and which calls fail.
use Rattle.std.specs.Prelude.{ℕ, List}
use Rattle.hive_edge.specs.Failing.{Failing}

pub record MemSink : Type 0 where
  pub got : List ℕ
  pub left : ℕ
  pub piece : ℕ
  pub failing : Failing
