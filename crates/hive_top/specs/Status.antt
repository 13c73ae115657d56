-- The exit status of the process for each way in which a call ends.
use Rattle.std.specs.Prelude.{◌≡◌, ◌⊎◌, ℕ}
use Rattle.hive_top.specs.declared.status.Status.{Status}
use Rattle.hive_top.specs.declared.status.Status.TheVariants.{AllOk, SomeNot, Words, NoMemory, Options, Record, Input, Output}

abbrev pub code_of : Status → ℕ
code_of AllOk = 0
code_of SomeNot = 1
code_of Words = 2
code_of NoMemory = 3
code_of Options = 4
code_of Record = 5
code_of Input = 6
code_of Output = 7

-- a status with which a call ends that wrote its whole text
abbrev pub IsWhole : Status → Type 0
IsWhole NoMemory = ⊥
IsWhole Output = ⊥
IsWhole other = Unit {0}

-- the status meant, or that of a call that was broken off
abbrev pub IsOneOf : Status → Status → Type 0
IsOneOf ended meant = (ended ≡ meant) ⊎ (ended ≡ Output) ⊎ (ended ≡ NoMemory)
