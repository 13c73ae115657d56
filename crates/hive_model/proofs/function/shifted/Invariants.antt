use Rattle.std.proofs.Common.{◌+ℤ◌}
use Rattle.hive_model.proofs.Elementwise.{IsMade}
use Rattle.hive_model.proofs.function.shifted.Given as goal

abbrev pub invariant-loop-number : goal.invariant-loop-number
invariant-loop-number l = IsMade (λ x. x +ℤ l.offset) l.numbers l.number-index l.sums.items
