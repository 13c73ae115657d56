-- What a test knows of the passes that it gives to threads.
use Rattle.std.specs.Prelude.{◌≡◌, ℕ, List, All}
use Rattle.turn_lock.specs.declared.kept.Kept.{Ghosts}
use Rattle.turn_lock.specs.declared.pass.TurnPass.{TurnPass}
use Rattle.turn_lock.specs.declared.turn.Turn.{Turn}
use Rattle.turn_lock.specs.Pass.{IsIdle, rights_of}
use Rattle.turn_lock.specs.Turn.{IsPassOf}

module _ {V I : Type 0} {g : Ghosts V I} where
  -- an idle pass of this lock, with so many rights
  abbrev pub IsReady : Turn V I → ℕ → TurnPass V I g → Type 0
  IsReady turn rights pass = IsPassOf turn pass × IsIdle pass × (rights_of pass ≡ rights)

  -- each is an idle pass of this lock, with one right
  abbrev pub AreReady : Turn V I → List (TurnPass V I g) → Type 0
  AreReady turn passes = All (IsReady turn 1) passes
