-- Outstanding claims by their tickets.
use Rattle.std.specs.Prelude.{◌≡◌, ℕ, ◌<◌, ◌≤◌, nat_lt, if◌then◌else◌, List, Option, Some, None, slice_get, IsSomeAnd, MatchOption}
use Rattle.hive_model.specs.Machine.{Busy, Outstanding, claim_at}
use Rattle.event_flow.specs.declared.held.Held.{Held}
use Rattle.event_slots.specs.Slots.{busy_in}
use Rattle.event_slots.specs.declared.standing.Standing.{Standing}

-- the claim is outstanding in its slot's event
abbrev pub IsStanding : List (Option Busy) → Standing → Type 0
IsStanding slots it =
    IsSomeAnd (busy_in slots it.slot) (λ b. IsSomeAnd (claim_at b it.algorithm)
    (λ c. (c.ticket ≡ it.ticket) × (c.clone ≡ it.clone)))

-- no claim of the slot's event has a lesser ticket; where there is no standing it has no claim
abbrev pub IsLeastOf : List (Option Busy) → ℕ → Option Standing → Type 0
IsLeastOf slots slot None = (number : ℕ) (b : Busy) → busy_in slots slot ≡ Some b → claim_at b number ≡ None
IsLeastOf slots slot (Some it) =
    (number : ℕ) (b : Busy) (c : Outstanding) → busy_in slots slot ≡ Some b → claim_at b number ≡ Some c
    → it.ticket ≤ c.ticket

-- the oldest claim of one event
abbrev pub IsFirstOf : List (Option Busy) → ℕ → Option Standing → Type 0
IsFirstOf slots slot it = MatchOption it (Unit {0}) (IsStanding slots) × IsLeastOf slots slot it

-- the oldest claim of the events in the first slots of an order
abbrev pub IsFirstAmong : List (Option Busy) → List ℕ → ℕ → Option Standing → Type 0
IsFirstAmong slots order count it =
    MatchOption it (Unit {0}) (IsStanding slots)
    × ((at slot : ℕ) → at < count → slice_get order at ≡ Some slot → IsLeastOf slots slot it)

-- the one of two that has the lesser ticket
abbrev pub older : Option Standing → Option Standing → Option Standing
older None other = other
older (Some it) None = Some it
older (Some it) (Some them) = if nat_lt them.ticket it.ticket then Some them else Some it

-- an algorithm's claim, standing in that slot
abbrev pub standing_at : ℕ → Option (ℕ × Held) → Option Standing
standing_at slot None = None
standing_at slot (Some found) =
    Some (record { ticket = found.1.ticket; slot = slot; algorithm = found.0; clone = found.1.clone })
