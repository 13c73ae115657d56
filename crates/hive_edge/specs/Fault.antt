-- A count of faults never falls. A failed call raises it by one at least, but at its last value, 2 ^ 64 - 1, it stands still.
-- Every other answer leaves it as it was.
use Rattle.std.specs.Prelude.{◌≡◌, ℕ, ◌+◌, ◌-◌, ◌^◌, ◌<◌, ◌≤◌, min, Result, Ok, Err}

-- the count rose, or stands at its last value
abbrev pub Rose : ℕ → ℕ → Type 0
Rose before now = (before ≤ now) × (min (before + 1) (2 ^ 64 - 1) ≤ now)

-- the count is as before, and could have risen
abbrev pub Calm : ℕ → ℕ → Type 0
Calm before now = (now ≡ before) × (now < 2 ^ 64 - 1)

-- an error comes only with a risen count
abbrev pub HasCause : {T E : Type 0} → ℕ → ℕ → Result T E → Type 0
HasCause before now (Ok it) = now ≡ before
HasCause before now (Err e) = Rose before now
