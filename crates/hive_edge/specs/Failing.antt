-- Calls are numbered from 1. Those whose numbers were named beforehand fail, and each failure raises the count of faults.
-- Both numbers stand still at 2 ^ 64 - 1.
use Rattle.std.specs.Prelude.{ℕ, ◌+◌, ◌-◌, ◌^◌, ◌==◌, Bool, List, min}
use Rattle.std.specs.List.{list_any}

pub record Failing : Type 0 where
  pub calls : ℕ
  pub numbers : List ℕ
  pub faults : ℕ

-- one more, up to the last value
abbrev pub after_one : ℕ → ℕ
after_one n = min (n + 1) (2 ^ 64 - 1)

-- the number of the next call is among those that fail
abbrev pub fails_next : Failing → Bool
fails_next it = list_any (λ n. n == after_one it.calls) it.numbers

-- a call that didn't fail was counted
abbrev pub counted : Failing → Failing
counted it = record it { calls = after_one it.calls }

-- a call that failed was counted, and its fault too
abbrev pub failed : Failing → Failing
failed it = record it { calls = after_one it.calls; faults = after_one it.faults }
