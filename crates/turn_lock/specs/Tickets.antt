-- The rule of the lock. Word 0 is the next ticket, word 1 the ticket that is served, both modulo 2 ^ 64, and
-- word 2 the length of the history. The slot has the value, unless a pass holds it.
use Rattle.std.specs.Prelude.{◌≡◌, ℕ, ◌+◌, ◌%◌, ◌^◌, ◌<◌, ◌≤◌, List, [], ◌∷◌, Option, Some, length}
use mathlib.Core.List.{IsPrefix}
use mathlib.Core.Option.{some}
use lib.ListN.{get_elem?}
use Rattle.atomic_table.specs.Table.{State}
use Rattle.turn_lock.specs.declared.view.Knows.{Knows}
use Rattle.turn_lock.specs.declared.view.Stage.{Stage}
use Rattle.turn_lock.specs.declared.view.Stage.TheVariants.{Idle, Waits, Holds}
use Rattle.turn_lock.specs.History.{below}
use Rattle.turn_lock.specs.View.{ticket_of, queued, IsOut, rights_held, tickets_held, owners}

module _ {I : Type 0} (drawn served : ℕ) (history : List I) where
  -- a ticket is one that was drawn and isn't done with; the holder's is served, and it knows the history whole
  abbrev pub Stands : Stage I → Type 0
  Stands Idle = Unit {0}
  Stands (Waits t) = (served ≤ t) × (t < drawn)
  Stands (Holds t known) = (t ≡ served) × (t < drawn) × (known ≡ history)

  -- what the rule says of one pass; without rights it is spent: it has no ticket and owns nothing
  pub record Fits (v : Knows I) : Type 0 where
    pub seen : IsPrefix v.seen history
    pub told : IsPrefix v.told history
    pub stands : Stands v.stage
    pub enough : queued v.stage ≤ v.rights
    pub spent : v.rights ≡ 0 → v.own ≡ []

-- the lock was made with so many rights, over a history of so many items
pub record Turns {V I : Type 0} (list : V → List I) (rights from : ℕ) (s : State (Option V) (Knows I))
    : Type 0 where
  pub drawn : ℕ
  pub served : ℕ
  pub history : List I
  pub words : s.words ≡ drawn % 2 ^ 64 ∷ served % 2 ^ 64 ∷ length history ∷ []
  pub small : length history < 2 ^ 64
  pub one_slot : length s.homes ≡ 1
  pub few : rights < 2 ^ 32
  pub all_rights : rights_held s.views ≡ rights
  -- each ticket that isn't done with is one pass's
  pub queue : served + tickets_held s.views ≡ drawn
  -- no two passes have one ticket
  pub apart : (i j t : ℕ) (v w : Knows I) → get_elem? s.views i ≡ some v → get_elem? s.views j ≡ some w
      → ticket_of v.stage ≡ Some t → ticket_of w.stage ≡ Some t → i ≡ j
  pub each : (j : ℕ) (v : Knows I) → get_elem? s.views j ≡ some v → Fits drawn served history v
  -- where no pass holds the value it is at home, with this history
  pub home : ((j : ℕ) (v : Knows I) → get_elem? s.views j ≡ some v → ¬ IsOut v.stage)
      → (x : V) × (get_elem? s.homes 0 ≡ some (some (Some x))) × (list x ≡ history)
  -- each position that was added is some pass's own, once
  pub owned : (p : ℕ) → owners p s.views + below p from ≡ below p (length history)
