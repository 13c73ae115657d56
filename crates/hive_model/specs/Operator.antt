-- The operators between two numbers. `/` rounds toward zero, `%` has the sign of the dividend, and a comparison gives 1 or 0.
use Rattle.std.specs.Prelude.{Bool, not, if◌then◌else◌, ℤ, pos, ◌+ℤ◌, ◌-ℤ◌, ◌*ℤ◌, int_lt, int_le, int_div, int_rem, Err}
use Rattle.std.specs.Ordering.{int_eq}
use Rattle.hive_model.specs.Number.{Worth, num}
use Rattle.hive_model.specs.declared.expr.Binary.{Binary}
use Rattle.hive_model.specs.declared.expr.Binary.TheVariants.{Add, Sub, Mul, Div, Rem, Eq, Ne, Lt, Le, Gt, Ge}
use Rattle.hive_model.specs.declared.outcome.Fault.TheVariants.{DivZero}

abbrev pub truth : Bool → Worth
truth b = num (if b then pos 1 else pos 0)

-- the worth of a division, which has none where the divisor is 0
abbrev pub divided : ℤ → ℤ → Worth
divided y z = if int_eq y (pos 0) then Err DivZero else num z

unfoldable pub operation : Binary → ℤ → ℤ → Worth
operation Add x y = num (x +ℤ y)
operation Sub x y = num (x -ℤ y)
operation Mul x y = num (x *ℤ y)
operation Div x y = divided y (int_div x y)
operation Rem x y = divided y (int_rem x y)
operation Eq x y = truth (int_eq x y)
operation Ne x y = truth (not (int_eq x y))
operation Lt x y = truth (int_lt x y)
operation Le x y = truth (int_le x y)
operation Gt x y = truth (int_lt y x)
operation Ge x y = truth (int_le y x)
