-- A source is read piece by piece: what leaves it joins the text. It is told to have failed only where its count of faults rose,
-- or stands at its last value.
use Rattle.std.specs.Prelude.{◌≡◌, ℕ, List, ◌++◌, length, Option, Result, Ok, Err}
use Rattle.std.specs.Io.KnownBytes.{Consumes}
use Rattle.hive_edge.specs.Fault.{Rose}
use Rattle.hive_edge.specs.declared.reading.InputFault.{InputFault}
use Rattle.hive_edge.specs.declared.reading.InputFault.TheVariants.{Failed, NoMemory}

-- the count rose with `Failed`, and else it is as before
abbrev pub InputCause : {T : Type 0} → ℕ → ℕ → Result T InputFault → Type 0
InputCause before now (Ok it) = now ≡ before
InputCause before now (Err Failed) = Rose before now
InputCause before now (Err NoMemory) = now ≡ before

-- n bytes left the source and joined the text
pub record Adds (rest left : Option (List ℕ)) (old new : List ℕ) (n : ℕ) : Type 0 where
  pub taken : List ℕ
  pub bytes : Consumes rest left taken
  pub text : new ≡ old ++ taken
  pub count : length taken ≡ n
