-- What public clauses read of a lock.
use Rattle.std.specs.Prelude.{◌≡◌, ℕ, List}
use Rattle.turn_lock.specs.declared.kept.Kept.{Ghosts}
use Rattle.turn_lock.specs.declared.pass.TurnPass.{TurnPass}
use Rattle.turn_lock.specs.declared.turn.Turn.{Turn}

module _ {V I : Type 0} where
  -- the pass is this lock's
  abbrev pub IsPassOf : {g : Ghosts V I} → Turn V I → TurnPass V I g → Type 0
  IsPassOf turn pass = pass.seat.table_id ≡ turn.table.shared.table_id

  -- how many rights the lock was made with
  abbrev pub all_rights : Turn V I → ℕ
  all_rights turn = turn.table.shared.key.rights

  -- the history that the value had then
  abbrev pub opening : (V → List I) → Turn V I → List I
  opening list turn = list turn.table.shared.key.value.value
