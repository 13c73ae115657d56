-- The executions of the three algorithms: over the hits, over their total, and over the divisor.
use Rattle.std.proofs.Common.{◌≡◌, ℕ, zero, suc, ◌+◌, ◌*◌, ◌/◌, ◌<◌, ◌≤◌, Bool, true, false, if◌then◌else◌, ℤ, pos, negsuc, ◌+ℤ◌, ◌≤ℤ◌, int_le, int_lt, int_div, List, [], ◌∷◌, refl, arith}
use Rattle.std.proofs.lemmas.Bool.Decides.{Decides-int_eq}
use Rattle.std.proofs.lemmas.Int.{ints}
use Rattle.std.specs.List.{fold}
use Rattle.std.specs.Ordering.{int_eq}
use Rattle.gen_laws.specs.GeneratedJob.{cut_above_500, ratio, sum_of_hits}
use Rattle.hive_gen.specs.Draws.{drawn, next_state}
use Rattle.hive_gen.specs.Events.{hit, hits_count, hits_drawn, hits_from}
use Rattle.hive_model.specs.Call.{call_one, total}
use Rattle.hive_model.specs.Execution.{Execution, either, execution, failed, filtered, outputs_from, passed}
use Rattle.hive_model.specs.Number.{fits, num}
use Rattle.hive_model.specs.Operator.{operation, truth}
use Rattle.hive_model.specs.Tree.{tree_of, tree_within}
use Rattle.hive_model.specs.Value.{value, value_of}
use Rattle.hive_model.specs.declared.outcome.Fault.TheVariants as fault
use Rattle.hive_model.specs.declared.outcome.Outcome.TheVariants as outcome
use Rattle.hive_model.specs.declared.outcome.Place.TheVariants as place
use Rattle.hive_model.specs.declared.product.Product.{Product}
use Rattle.hive_model.specs.declared.product.Product.TheVariants as product

-- the total of the hits fits

fits-low : (z : ℤ) → negsuc 9223372036854775807 ≤ℤ z → z ≤ℤ pos 9223372036854775807 → fits z ≡ true
unfolding fits
fits-low z low high =
    let least : int_le (negsuc 9223372036854775807) z ≡ true = grind (arith, ints) in
    let most : int_le z (pos 9223372036854775807) ≡ true = grind (arith, ints) in
    rw (least, most) refl

hit-low : (draw : ℕ) → (negsuc 199 ≤ℤ hit draw) × (hit draw ≤ℤ pos 799)
hit-low draw = (omega (arith, ints), omega (arith, ints))

-- the sums of so many hits and fewer are within such bounds
added : (count state : ℕ) (acc : ℤ) (m : ℕ) → negsuc (200 * m) ≤ℤ acc → acc ≤ℤ pos (800 * m) →
    (negsuc (200 * (m + count)) ≤ℤ fold ◌+ℤ◌ acc (hits_from count state)) × (fold ◌+ℤ◌ acc
    (hits_from count state) ≤ℤ pos (800 * (m + count)))
unfolding hits_from
added zero state acc m low high = (omega (arith, ints, low), omega (arith, ints, high))
added (suc count) state acc m low high =
    let x = hit (drawn (next_state state)) in
    let bounds = hit-low (drawn (next_state state)) in
    let least : negsuc (200 * (m + 1)) ≤ℤ (acc +ℤ x) = omega (arith, ints, low, bounds.0) in
    let most : (acc +ℤ x) ≤ℤ pos (800 * (m + 1)) = omega (arith, ints, high, bounds.1) in
    let later = added count (next_state state) (acc +ℤ x) (m + 1) least most in
    let e : (m + 1) + count ≡ m + suc count = omega arith in
    rw e at later

total-fits : (state : ℕ) → fits (total (hits_drawn state)) ≡ true
total-fits state =
    let count = hits_count (drawn (next_state state)) in
    let few : count ≤ 8 = omega arith in
    let within = added count (next_state state) (pos 0) 0 (omega (arith, ints)) (omega (arith, ints)) in
    fits-low (total (hits_drawn state)) (omega (arith, ints, few, within.0))
    (omega (arith, ints, few, within.1))

-- executions

abbrev pub accepted : List Product → Execution
accepted outputs = record { outcome = outcome.Accepted; outputs = outputs }

pub summed : (state : ℕ) → execution sum_of_hits (product.List (hits_drawn state) ∷ [])
    ≡ accepted (product.Num (total (hits_drawn state)) ∷ [])
unfolding execution outputs_from filtered value_of value tree_of tree_within call_one num
summed state = rw (total-fits state) refl

pub cut-run : (z : ℤ) → execution cut_above_500 (product.Num z ∷ [])
    ≡ record { outcome = if int_lt (pos 500) z then outcome.Accepted else outcome.Rejected; outputs = [] }
unfolding execution outputs_from filtered value_of value tree_of tree_within operation num fits
cut-run z = by (int_lt (pos 500) z)
  where
    by : (t : Bool) → either (passed []) (failed place.Filter) (truth t)
        ≡ record { outcome = if t then outcome.Accepted else outcome.Rejected; outputs = [] }
    by true = refl
    by false = refl

not_zero : (k : ℕ) → 0 < k → int_eq (pos k) (pos 0) ≡ false
not_zero k some = by (int_eq (pos k) (pos 0)) refl
  where
    by : (t : Bool) → int_eq (pos k) (pos 0) ≡ t → t ≡ false
    by true e = let same = (Decides-int_eq (pos k) (pos 0)).0 e in absurd (omega (arith, ints, same, some))
    by false e = refl

pub divided : (k : ℕ) → 0 < k → execution ratio (product.Num (pos k) ∷ [])
    ≡ accepted (product.Num (int_div (pos 100) (pos k)) ∷ [])
unfolding execution outputs_from filtered value_of value tree_of tree_within operation num
divided k some =
    let other = not_zero k some in
    let low : 100 / k ≤ 100 = omega arith in
    let whole : fits (pos (100 / k)) ≡ true = fits-low (pos (100 / k)) (omega (arith, ints))
    (omega (arith, ints, low)) in
    rw (other, whole) refl

pub divided-zero : execution ratio (product.Num (pos 0) ∷ [])
    ≡ record { outcome = outcome.Failed (place.Output 0) fault.DivZero; outputs = [] }
unfolding execution outputs_from filtered value_of value tree_of tree_within operation num fits
divided-zero = refl
