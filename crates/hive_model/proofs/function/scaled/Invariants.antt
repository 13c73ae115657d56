use Rattle.std.proofs.Common.{◌*ℤ◌}
use Rattle.hive_model.proofs.Elementwise.{IsMade}
use Rattle.hive_model.proofs.function.scaled.Given as goal

abbrev pub invariant-loop-number : goal.invariant-loop-number
invariant-loop-number l = IsMade (λ x. x *ℤ l.factor) l.numbers l.number-index l.products.items
