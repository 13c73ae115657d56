-- Control flow arrives at more algorithms.
use Rattle.std.specs.Prelude.{◌≡◌, ℕ, ◌||◌, length}
use Rattle.algo_states.specs.States.{States, holds}
use Rattle.number_set.specs.Numbers.{has}
use Rattle.number_set.specs.declared.NumberSet.{NumberSet}

-- the later table says in addition that these are reached
pub record HasReached (before : States) (newly : NumberSet) (after : States) : Type 0 where
  pub rest : after ≡ record before { reached = after.reached }
  pub size : length after.reached ≡ length before.reached
  pub reached_are : (n : ℕ) → holds after.reached n ≡ (holds before.reached n || has newly n)
