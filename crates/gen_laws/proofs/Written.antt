-- What is needed of a number that is written: how it is read, and its bytes.
use Rattle.std.proofs.Common.{◌≡◌, ℕ, suc, ◌-◌, ◌^◌, ◌%◌, ◌<◌, ◌≤◌, nat_le, Bool, true, false, ℤ, pos, negsuc, ◌-ℤ◌, length, decimal, Some, refl, ap, sym, subst, ◌∙◌, arith}
use Rattle.std.proofs.lemmas.Bool.Decides.{nat_tests}
use Rattle.std.proofs.lemmas.Fmt.{decimal_nonempty, length-decimal-le}
use Rattle.std.proofs.lemmas.Int.{ints}
use Rattle.std.specs.Fmt.{signed_decimal}
use Rattle.std.specs.List.{AllByRecursion}
use Rattle.std.specs.Option.{option_and_then}
use Rattle.gen_laws.proofs.Bytes.{IsOfNumber, of_digits}
use Rattle.gen_laws.proofs.Numbers.{decimal-digits, signed-decimal, unsigned-decimal}
use Rattle.hive_gen.specs.Events.{hit}
use Rattle.text_model.specs.Numerals.{signed, with_sign}

pub record IsWritten (z : ℤ) : Type 0 where
  pub read : signed (signed_decimal z) ≡ Some z
  pub bytes : AllByRecursion IsOfNumber (signed_decimal z)
  pub some : 0 < length (signed_decimal z)
  pub short : length (signed_decimal z) ≤ 21

pub written-pos : (n : ℕ) → n < 2 ^ 63 → IsWritten (pos n)
written-pos n h =
    let wide : n < 2 ^ 64 = omega arith in
    let short = length-decimal-le 20 n (omega arith) (omega arith) wide in
    record {
      read = signed-decimal n h;
      bytes = of_digits (decimal n) (decimal-digits n wide);
      some = decimal_nonempty n wide;
      short = omega (arith, short);
    }

read-negsuc : (n : ℕ) → n < 2 ^ 63 → signed (signed_decimal (negsuc n)) ≡ Some (negsuc n)
unfolding signed
read-negsuc n h =
    let wide : suc n < 2 ^ 64 = omega arith in
    let fits : nat_le (suc n) (2 ^ 63) ≡ true = grind (arith, nat_tests) in
    ap (option_and_then (with_sign true)) (unsigned-decimal (suc n) wide) ∙ rw fits refl

written-negsuc : (n : ℕ) → n < 2 ^ 63 → IsWritten (negsuc n)
written-negsuc n h =
    let wide : suc n < 2 ^ 64 = omega arith in
    let short = length-decimal-le 20 (suc n) (omega arith) (omega arith) wide in
    record {
      read = read-negsuc n h;
      bytes = ((omega arith, omega arith), of_digits (decimal (suc n)) (decimal-digits (suc n) wide));
      some = omega arith;
      short = omega (arith, short);
    }

-- a hit

small : (a : ℕ) → a < 1000 → IsWritten (pos a -ℤ pos 200)
small a h = by (nat_le 200 a) refl
  where
    by : (t : Bool) → nat_le 200 a ≡ t → IsWritten (pos a -ℤ pos 200)
    by true e =
        let high : 200 ≤ a = grind (arith, nat_tests) in
        let is : pos a -ℤ pos 200 ≡ pos (a - 200) = omega (arith, ints) in
        subst IsWritten (sym is) (written-pos (a - 200) (omega arith))
    by false e =
        let low : a < 200 = grind (arith, nat_tests) in
        let is : pos a -ℤ pos 200 ≡ negsuc (199 - a) = omega (arith, ints) in
        subst IsWritten (sym is) (written-negsuc (199 - a) (omega arith))

pub written-hit : (draw : ℕ) → IsWritten (hit draw)
written-hit draw = small (draw % 1000) (omega arith)
