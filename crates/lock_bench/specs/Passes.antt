-- What the program knows of the passes of its lock.
use Rattle.std.specs.Prelude.{◌≡◌, ℕ}
use Rattle.turn_lock.specs.declared.kept.Kept.{Ghosts}
use Rattle.turn_lock.specs.declared.pass.TurnPass.{TurnPass}
use Rattle.turn_lock.specs.declared.turn.Turn.{Turn}
use Rattle.turn_lock.specs.Pass.{IsIdle, rights_of}
use Rattle.turn_lock.specs.Turn.{IsPassOf}

-- an idle pass of this lock, with so many rights
abbrev pub IsReady : {V I : Type 0} {g : Ghosts V I} → Turn V I → ℕ → TurnPass V I g → Type 0
IsReady turn rights pass = IsPassOf turn pass × IsIdle pass × (rights_of pass ≡ rights)
