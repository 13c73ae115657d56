-- The ten functions over lists. An index counts from 0, and a list that would be too long is the fault TooLong.
use Rattle.std.specs.Prelude.{nat_le, if◌then◌else◌, ℤ, pos, negsuc, ◌+ℤ◌, ◌*ℤ◌, int_lt, List, [], ◌∷◌, ◌++◌, length, map, take, slice_get, Ok, Err}
use Rattle.std.specs.List.{filter, fold}
use Rattle.std.specs.Option.{option_map_or}
use Rattle.hive_model.specs.Number.{Worth, num, list}
use Rattle.hive_model.specs.declared.expr.Function.{Function}
use Rattle.hive_model.specs.declared.expr.Function.TheVariants.{Len, Sum, Min, Max, At, Above, Scale, Shift, Cat, First}
use Rattle.hive_model.specs.declared.limits.TheConstants.{MOST_NUMBERS}
use Rattle.hive_model.specs.declared.outcome.Fault.TheVariants.{Empty, Index, TooLong}
use Rattle.hive_model.specs.declared.product.Product.{Product}
use Rattle.hive_model.specs.declared.product.Product.TheVariants as product

-- The worth where operands don't have the kinds that are asked. No valid expression comes to it.
unfoldable pub unfit : Worth
unfit = Err Empty

abbrev pub total : List ℤ → ℤ
total xs = fold ◌+ℤ◌ (pos 0) xs

abbrev pub lesser : ℤ → ℤ → ℤ
lesser x y = if int_lt y x then y else x

abbrev pub greater : ℤ → ℤ → ℤ
greater x y = if int_lt x y then y else x

-- the one that `better` prefers over all elements
abbrev pub best : (ℤ → ℤ → ℤ) → List ℤ → Worth
best better [] = Err Empty
best better (x ∷ xs) = Ok (product.Num (fold better x xs))

unfoldable pub element : List ℤ → ℤ → Worth
element xs (pos n) = option_map_or (λ x. Ok (product.Num x)) (slice_get xs n) (Err Index)
element xs (negsuc n) = Err Index

unfoldable pub front : List ℤ → ℤ → Worth
front xs (pos n) = Ok (product.List (take n xs))
front xs (negsuc n) = Err Index

unfoldable pub joined : List ℤ → List ℤ → Worth
joined xs ys = if nat_le (length (xs ++ ys)) MOST_NUMBERS then Ok (product.List (xs ++ ys)) else Err TooLong

-- a function of one list
unfoldable pub call_one : Function → Product → Worth
call_one Len (product.List xs) = Ok (product.Num (pos (length xs)))
call_one Sum (product.List xs) = num (total xs)
call_one Min (product.List xs) = best lesser xs
call_one Max (product.List xs) = best greater xs
call_one f p = unfit

-- a function of a list and a second operand
unfoldable pub call_two : Function → Product → Product → Worth
call_two At (product.List xs) (product.Num n) = element xs n
call_two Above (product.List xs) (product.Num n) = Ok (product.List (filter (λ x. int_lt n x) xs))
call_two Scale (product.List xs) (product.Num n) = list (map (λ x. x *ℤ n) xs)
call_two Shift (product.List xs) (product.Num n) = list (map (λ x. x +ℤ n) xs)
call_two First (product.List xs) (product.Num n) = front xs n
call_two Cat (product.List xs) (product.List ys) = joined xs ys
call_two f p q = unfit
