-- What public clauses read of a pass.
use Rattle.std.specs.Prelude.{◌≡◌, ℕ, List, [], ◌∷◌, None, length}
use mathlib.Core.List.{IsPrefix}
use Rattle.turn_lock.specs.declared.kept.Kept.{Ghosts}
use Rattle.turn_lock.specs.declared.pass.TurnPass.{TurnPass}
use Rattle.turn_lock.specs.declared.view.Stage.TheVariants.{Idle, Holds}
use Rattle.turn_lock.specs.View.{held_in}

module _ {V I : Type 0} {g : Ghosts V I} where
  abbrev pub rights_of : TurnPass V I g → ℕ
  rights_of p = p.rights

  -- the prefix of the history that the pass has seen
  abbrev pub seen : TurnPass V I g → List I
  seen p = p.seat.me.0.seen

  -- the positions of the items that the pass added
  abbrev pub own : TurnPass V I g → List ℕ
  own p = p.seat.me.0.own

  -- the history of the value when `hold` gave it to this pass
  abbrev pub held : TurnPass V I g → List I
  held p = held_in p.seat.me.0.stage

  -- it holds nothing and waits for nothing
  abbrev pub IsIdle : TurnPass V I g → Type 0
  IsIdle p = (p.seat.me.0.stage ≡ Idle) × (p.seat.me.1 ≡ [])

  -- the value is out with this pass, so the slot that it has is empty
  pub record IsHolding (p : TurnPass V I g) : Type 0 where
    pub ticket : ℕ
    pub stage : p.seat.me.0.stage ≡ Holds ticket (held p)
    pub slot : p.seat.me.1 ≡ (0, None) ∷ []
    pub count : p.count ≡ length (held p)
    pub seen : IsPrefix p.seat.me.0.seen (held p)
