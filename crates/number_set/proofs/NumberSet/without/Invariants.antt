use Rattle.std.proofs.Common.{◌≡◌, ℕ, ◌<◌, ◌&&◌, length, not, get_or}
use Rattle.number_set.specs.Numbers.{has_bit}
use Rattle.number_set.proofs.NumberSet.without.Given as goal

abbrev pub invariant-loop-place : goal.invariant-loop-place
invariant-loop-place l =
    (length l.left.words ≡ 16) × (length l.self.words ≡ 16)
    × ((p k : ℕ) → p < l.place → k < 64
    → has_bit (get_or l.left.words p 0) k ≡ (has_bit (get_or l.self.words p 0) k && not (has_bit (get_or l.other.words p 0) k)))
