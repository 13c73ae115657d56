use Rattle.std.proofs.Common.{◌≡◌, ◌<◌, ℕ, ℤ, Option, Some, None, FitsSigned, of_z, to_z-of_z, refl, int_div, arith}
use Rattle.std.specs.Int.{w64}
use Rattle.std.specs.Option.{SomeIff}
use Rattle.hive_model.proofs.Numbers.{zero_word, nonzero_word}
use Rattle.hive_model.specs.Operator.{operation}
use Rattle.hive_model.proofs.operator.quotient.Goals as goal

pub returns-then-right-eq0 : goal.returns-then-right-eq0
unfolding operation
returns-then-right-eq0 c = rw (zero_word c.args.right c.ranges.right c.if-right-eq0.true) refl

without_divisor : (o : Option ℤ) (P Q : Type 0) (z : ℤ) → P → SomeIff o (P × Q) z → SomeIff o Q z
without_divisor None P Q z p h = λ q. h (p, q)
without_divisor (Some x) P Q z p h = (h.0.1, h.1)

positive : (n : ℕ) → (n ≡ 0 → ⊥) → 0 < n
positive n h = omega arith

pub returns : goal.returns
unfolding operation
returns c =
    let left : FitsSigned w64 c.args.left = c.ranges.left in
    let right : FitsSigned w64 c.args.right = c.ranges.right in
    rw (nonzero_word c.args.right c.if-right-eq0.false)
    (c.checked.ensures (int_div c.args.left c.args.right)
    (without_divisor c.checked_div.result (0 < of_z w64 c.args.right) (FitsSigned w64 (int_div c.args.left c.args.right)) (int_div c.args.left c.args.right) (positive (of_z w64 c.args.right) c.if-right-eq0.false) (simp to_z-of_z at c.checked_div.ensures)))
