-- The lists of a graph have one element for each handle, and there are at most as many as a job may have.
use Rattle.std.specs.Prelude.{◌≡◌, ◌≤◌, ℕ, List, Option, length}
use Rattle.std.specs.declared.alloc.Global.{Global}
use Rattle.std.specs.declared.vec.Vec.{Vec}
use Rattle.hive_model.specs.declared.limits.TheConstants.{MOST_HANDLES}

pub record HasSizes (names : List (List ℕ)) (producers : List (Option ℕ)) (consumers : List (Vec ℕ Global)) : Type 0 where
  pub few : length names ≤ MOST_HANDLES
  pub producers_size : length producers ≡ length names
  pub consumers_size : length consumers ≡ length names
