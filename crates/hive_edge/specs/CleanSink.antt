-- A sink in memory as contracts see it: what it got, how many bytes it still has room for, and the most that one call takes.
use Rattle.std.specs.Prelude.{ℕ, List}

pub record CleanSink : Type 0 where
  pub got : List ℕ
  pub left : ℕ
  pub piece : ℕ
