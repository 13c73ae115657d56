-- The order of the events in flight, by their slots.
use Rattle.std.specs.Prelude.{ℕ, nat_eq, not, List}
use Rattle.std.specs.List.{filter}

-- a slot leaves the order, which keeps all others
abbrev pub without : ℕ → List ℕ → List ℕ
without slot order = filter (λ other. not (nat_eq other slot)) order
