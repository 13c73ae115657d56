use Rattle.std.proofs.Common.{◌+ℤ◌, ◌-ℤ◌, ◌*ℤ◌, not, ap, ◌∙◌, FitsSigned, to_z-of_z}
use Rattle.std.specs.Int.{w64}
use Rattle.hive_model.proofs.Numbers.{same_words}
use Rattle.hive_model.specs.Operator.{operation, truth}
use Rattle.hive_model.proofs.operator.operation_of.Goals as goal

pub returns-in-Add : goal.returns-in-Add
unfolding operation
returns-in-Add c =
    let left : FitsSigned w64 c.args.left = c.ranges.left in
    let right : FitsSigned w64 c.args.right = c.ranges.right in
    rw c.in-Add.is (c.checked.ensures (c.args.left +ℤ c.args.right) (simp to_z-of_z at c.checked_add.ensures))

pub returns-in-Sub : goal.returns-in-Sub
unfolding operation
returns-in-Sub c =
    let left : FitsSigned w64 c.args.left = c.ranges.left in
    let right : FitsSigned w64 c.args.right = c.ranges.right in
    rw c.in-Sub.is (c.checked-in-Sub.ensures (c.args.left -ℤ c.args.right) (simp to_z-of_z at c.checked_sub.ensures))

pub returns-in-Mul : goal.returns-in-Mul
unfolding operation
returns-in-Mul c =
    let left : FitsSigned w64 c.args.left = c.ranges.left in
    let right : FitsSigned w64 c.args.right = c.ranges.right in
    rw c.in-Mul.is (c.checked-in-Mul.ensures (c.args.left *ℤ c.args.right) (simp to_z-of_z at c.checked_mul.ensures))

pub returns-in-Eq : goal.returns-in-Eq
unfolding operation
returns-in-Eq c =
    rw c.in-Eq.is (c.truth_of.ensures ∙ ap truth (same_words c.args.left c.args.right c.ranges.left c.ranges.right))

pub returns-in-Ne : goal.returns-in-Ne
unfolding operation
returns-in-Ne c =
    rw c.in-Ne.is (c.truth_of-in-Ne.ensures ∙ ap (λ b. truth (not b)) (same_words c.args.left c.args.right c.ranges.left c.ranges.right))

pub returns-in-Lt : goal.returns-in-Lt
unfolding operation
returns-in-Lt c =
    let left : FitsSigned w64 c.args.left = c.ranges.left in
    let right : FitsSigned w64 c.args.right = c.ranges.right in
    rw c.in-Lt.is (simp to_z-of_z at c.truth_of-in-Lt.ensures)

pub returns-in-Le : goal.returns-in-Le
unfolding operation
returns-in-Le c =
    let left : FitsSigned w64 c.args.left = c.ranges.left in
    let right : FitsSigned w64 c.args.right = c.ranges.right in
    rw c.in-Le.is (simp to_z-of_z at c.truth_of-in-Le.ensures)

pub returns-in-Gt : goal.returns-in-Gt
unfolding operation
returns-in-Gt c =
    let left : FitsSigned w64 c.args.left = c.ranges.left in
    let right : FitsSigned w64 c.args.right = c.ranges.right in
    rw c.in-Gt.is (simp to_z-of_z at c.truth_of-in-Gt.ensures)

pub returns-in-Ge : goal.returns-in-Ge
unfolding operation
returns-in-Ge c =
    let left : FitsSigned w64 c.args.left = c.ranges.left in
    let right : FitsSigned w64 c.args.right = c.ranges.right in
    rw c.in-Ge.is (simp to_z-of_z at c.truth_of-in-Ge.ensures)
