use Rattle.std.proofs.Common.{◌≡◌, ◌*◌, ◌^◌, take, pos, neg_ℤ, ◌≤ℤ◌}
use Rattle.hive_model.specs.Call.{total}
use Rattle.hive_model.proofs.function.total_of.Given as goal

abbrev pub invariant-loop-number : goal.invariant-loop-number
invariant-loop-number l =
    (l.sum ≡ total (take l.number-index l.numbers))
    × (neg_ℤ (pos (2 ^ 63 * l.number-index)) ≤ℤ l.sum)
    × (l.sum ≤ℤ pos (2 ^ 63 * l.number-index))
