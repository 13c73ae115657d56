-- What a pass knows. It is idle, waits with a ticket, or holds the value, whose history it then knows whole.
use Rattle.std.specs.Prelude.{ℕ, List, [], ◌++◌, Option, Some, None, sum_by}
use Rattle.turn_lock.specs.declared.view.Knows.{Knows}
use Rattle.turn_lock.specs.declared.view.Stage.{Stage}
use Rattle.turn_lock.specs.declared.view.Stage.TheVariants.{Idle, Waits, Holds}
use Rattle.turn_lock.specs.History.{times}

module _ {I : Type 0} where
  abbrev pub ticket_of : Stage I → Option ℕ
  ticket_of Idle = None
  ticket_of (Waits t) = Some t
  ticket_of (Holds t history) = Some t

  -- 1 with a ticket, and else 0
  abbrev pub queued : Stage I → ℕ
  queued Idle = 0
  queued (Waits t) = 1
  queued (Holds t history) = 1

  -- the value is out with this pass
  abbrev pub IsOut : Stage I → Type 0
  IsOut Idle = ⊥
  IsOut (Waits t) = ⊥
  IsOut (Holds t history) = Unit {0}

  -- the history that the value had when it was given out; nothing where it isn't
  abbrev pub held_in : Stage I → List I
  held_in Idle = []
  held_in (Waits t) = []
  held_in (Holds t history) = history

  -- an idle pass that has seen this prefix and added nothing
  abbrev pub newcomer : ℕ → List I → Knows I
  newcomer rights seen = record { rights = rights; stage = Idle; seen = seen; told = []; own = [] }

  -- the same but for where the pass stands
  abbrev pub staged : Stage I → Knows I → Knows I
  staged stage v = record { rights = v.rights; stage = stage; seen = v.seen; told = v.told; own = v.own }

  -- the holder has seen the history as it will go home, and owns these positions more
  abbrev pub ready : ℕ → List I → List ℕ → Knows I → Knows I
  ready t history more v =
      record { rights = v.rights; stage = Holds t history; seen = history; told = v.told; own = v.own ++ more }

  -- what all passes have together: their rights, how many have a ticket, and how often a position is own
  abbrev pub rights_held : List (Knows I) → ℕ
  rights_held views = sum_by (λ v. v.rights) views

  abbrev pub tickets_held : List (Knows I) → ℕ
  tickets_held views = sum_by (λ v. queued v.stage) views

  abbrev pub owners : ℕ → List (Knows I) → ℕ
  owners position views = sum_by (λ v. times position v.own) views
