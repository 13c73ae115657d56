use Rattle.std.proofs.Common.{◌≡◌, ◌≤◌, take, length}
use Rattle.std.specs.List.{filter}
use Rattle.std.specs.Prelude.{int_lt}
use Rattle.hive_model.proofs.function.above.Given as goal

abbrev pub invariant-loop-number : goal.invariant-loop-number
invariant-loop-number l =
    (l.kept.items ≡ filter (λ x. int_lt l.bound x) (take l.number-index l.numbers))
    × (length l.kept.items ≤ l.number-index)
