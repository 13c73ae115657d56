use Rattle.std.proofs.Common.{◌≡◌, ℕ, ◌*◌, ◌<◌, ◌≤◌, length, false}
use Rattle.number_set.specs.Numbers.{has}
use Rattle.number_set.proofs.NumberSet.first_in.Given as goal

abbrev pub invariant-loop-place : goal.invariant-loop-place
invariant-loop-place l =
    (length l.self.words ≡ 16) × ((n : ℕ) → 64 * l.first ≤ n → n < 64 * l.place → has l.self n ≡ false)
