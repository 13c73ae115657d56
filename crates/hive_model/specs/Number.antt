-- Numbers are whole and unbounded; a result outside 64 bits with sign is the fault Overflow.
use Rattle.std.specs.Prelude.{◌≡◌, Bool, ◌&&◌, if◌then◌else◌, ℤ, pos, negsuc, int_le, List, MatchResult, Result, Ok, Err}
use Rattle.std.specs.Borrow.{Bor}
use Rattle.std.specs.List.{list_all}
use Rattle.hive_model.specs.declared.outcome.Fault.{Fault}
use Rattle.hive_model.specs.declared.outcome.Fault.TheVariants.{Overflow}
use Rattle.hive_model.specs.declared.product.Product.{Product}
use Rattle.hive_model.specs.declared.product.Product.TheVariants as product

-- what an expression comes to: a product, or the first fault
abbrev pub Worth : Type 0
Worth = Result Product Fault

-- the product or the fault that the worth is
abbrev pub Borrows : Result (Bor Product) Fault → Worth → Type 0
Borrows borrowed worth = MatchResult borrowed (λ p. worth ≡ Ok p.now) (λ f. worth ≡ Err f)

-- from -9223372036854775808 to 9223372036854775807
unfoldable pub fits : ℤ → Bool
fits z = int_le (negsuc 9223372036854775807) z && int_le z (pos 9223372036854775807)

unfoldable pub num : ℤ → Worth
num z = if fits z then Ok (product.Num z) else Err Overflow

unfoldable pub list : List ℤ → Worth
list zs = if list_all fits zs then Ok (product.List zs) else Err Overflow
