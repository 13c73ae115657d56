-- A text is written piece by piece. A sink is told to have failed only where its count of faults rose, or
-- stands at its last value.
use Rattle.std.specs.Prelude.{◌≡◌, ℕ, Result, Ok, Err}
use Rattle.gen_out.specs.declared.sending.OutputFault.{OutputFault}
use Rattle.gen_out.specs.declared.sending.OutputFault.TheVariants.{Failed, NoMemory}
use Rattle.hive_edge.specs.Fault.{Rose}

-- the count rose with `Failed`, and else it is as before
abbrev pub OutputCause : {T : Type 0} → ℕ → ℕ → Result T OutputFault → Type 0
OutputCause before now (Ok it) = now ≡ before
OutputCause before now (Err Failed) = Rose before now
OutputCause before now (Err NoMemory) = now ≡ before
