-- The numbers that are drawn. A state is a number below 2 ^ 64. A draw first moves it on, by a linear
-- congruence, and then gives its upper 31 bits.
use Rattle.std.specs.Prelude.{ℕ, zero, suc, ◌+◌, ◌*◌, ◌/◌, ◌%◌, ◌^◌}

abbrev pub multiplier : ℕ
multiplier = 6364136223846793005

abbrev pub increment : ℕ
increment = 1442695040888963407

unfoldable pub next_state : ℕ → ℕ
next_state state = (state * multiplier + increment) % 2 ^ 64

-- what the draw gave that left this state
unfoldable pub drawn : ℕ → ℕ
drawn state = state / 2 ^ 33

-- after so many draws
unfoldable pub state_after : ℕ → ℕ → ℕ
state_after zero state = state
state_after (suc draws) state = state_after draws (next_state state)
