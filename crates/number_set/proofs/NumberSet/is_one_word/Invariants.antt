use Rattle.std.proofs.Common.{◌≡◌, ℕ, ◌<◌, ◌≤◌, length, get_or}
use Rattle.number_set.proofs.NumberSet.is_one_word.Given as goal

abbrev pub invariant-loop-place : goal.invariant-loop-place
invariant-loop-place l =
    (length l.self.words ≡ 16) × ((p : ℕ) → 1 ≤ p → p < l.place → get_or l.self.words p 0 ≤ l.others)
