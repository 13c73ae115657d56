-- A source in memory as contracts see it: the bytes still to come, and the most that one call gives.
use Rattle.std.specs.Prelude.{ℕ, List}

pub record CleanSource : Type 0 where
  pub rest : List ℕ
  pub piece : ℕ
