-- The claims of an event by algorithm, and the oldest of them.
use Rattle.std.specs.Prelude.{◌≡◌, ◌≤◌, ◌<◌, ◌&&◌, nat_lt, not, ℕ, Bool, true, false, if◌then◌else◌, List, length, Option, Some, None, slice_get, MatchOption}
use Rattle.std.specs.Option.{option_flatten}
use Rattle.algo_states.specs.States.{States, is_data_ready}
use Rattle.decision_nodes.specs.Tree.{Tree, is_withdrawn_in}
use Rattle.event_flow.specs.declared.held.Held.{Held}

-- the claim of that number
abbrev pub claim_among : List (Option Held) → ℕ → Option Held
claim_among claims number = option_flatten (slice_get claims number)

-- the one of two claims that has the lesser ticket
abbrev pub earlier : Option (ℕ × Held) → ℕ → Held → Option (ℕ × Held)
earlier None number held = Some (number, held)
earlier (Some it) number held = if nat_lt held.ticket it.1.ticket then Some (number, held) else Some it

-- the oldest claim of the algorithms below a number
abbrev pub IsLeastBelow : List (Option Held) → ℕ → Option (ℕ × Held) → Type 0
IsLeastBelow claims limit it =
    MatchOption it ((n : ℕ) → n < limit → claim_among claims n ≡ None)
    (λ found. (claim_among claims found.0 ≡ Some found.1)
    × ((n : ℕ) (other : Held) → n < limit → claim_among claims n ≡ Some other →
    found.1.ticket ≤ other.ticket))

-- the oldest claim of all
abbrev pub IsLeast : List (Option Held) → Option (ℕ × Held) → Type 0
IsLeast claims it =
    MatchOption it ((n : ℕ) → claim_among claims n ≡ None)
    (λ found. (claim_among claims found.0 ≡ Some found.1)
    × ((n : ℕ) (other : Held) → claim_among claims n ≡ Some other → found.1.ticket ≤ other.ticket))

-- it is ready, and no decided cut node is above it
unfoldable pub is_live_ready : Tree → States → ℕ → Bool
is_live_ready tree states number = is_data_ready states number && not (is_withdrawn_in tree number)

-- the least such one from a number on
abbrev pub IsNextLive : Tree → States → ℕ → Option ℕ → Type 0
IsNextLive tree states from it =
    MatchOption it ((n : ℕ) → from ≤ n → is_live_ready tree states n ≡ false)
    (λ number. (from ≤ number) × (number < length states.needs) × (is_live_ready tree states number ≡ true)
    × ((n : ℕ) → from ≤ n → n < number → is_live_ready tree states n ≡ false))
