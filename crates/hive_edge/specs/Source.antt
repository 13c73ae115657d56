-- A source has a rest, the bytes still to come, where it tells them. A read takes bytes off the front of the rest.
use Rattle.std.specs.Prelude.{ℕ, List, Option, Result, Ok, Err, take}
use Rattle.std.specs.Io.KnownBytes.{Keeps, Consumes}

-- `Ok n` took n bytes of the rest into the front of the buffer, and an error left the rest as it was
abbrev pub Takes : {E : Type 0} → Option (List ℕ) → Option (List ℕ) → Result ℕ E → List ℕ → Type 0
Takes old new (Ok n) buf = Consumes old new (take n buf)
Takes old new (Err e) buf = Keeps old new
