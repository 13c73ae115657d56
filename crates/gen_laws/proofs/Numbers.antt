-- Numbers are read as they are written.
use Rattle.std.proofs.Common.{◌≡◌, ℕ, ◌^◌, ◌<◌, ◌==◌, nat_lt, true, false, pos, List, [], ◌∷◌, length, decimal, Some, refl, ap, ◌∙◌, arith, rules}
use Rattle.std.proofs.lemmas.Bool.{and_parts}
use Rattle.std.proofs.lemmas.Bool.Decides.{nat_tests}
use Rattle.std.proofs.lemmas.Fmt.{decimal_nonempty, digits_decimal, digits_value-decimal}
use Rattle.std.proofs.lemmas.Str.Parse.{IsNumeralModel, numerals_by_value}
use Rattle.std.specs.Char.{is_ascii_digit}
use Rattle.std.specs.List.{list_all}
use Rattle.std.specs.Option.{option_and_then}
use Rattle.std.specs.Str.Parse.{digits_value}
use Rattle.text_model.specs.Numerals.{numeral_below, signed, unsigned, with_sign}
use Rattle.text_model.specs.declared.bytes.TheConstants.{MINUS}

own : IsNumeralModel (λ ds. list_all is_ascii_digit ds ≡ true) (digits_value 10)
own = numerals_by_value _ (search rules)

pub decimal-digits : (n : ℕ) → n < 2 ^ 64 → list_all is_ascii_digit (decimal n) ≡ true
decimal-digits n h = digits_decimal own n h

pub unsigned-decimal : (n : ℕ) → n < 2 ^ 64 → unsigned (decimal n) ≡ Some n
unfolding numeral_below
unsigned-decimal n h =
    let long = decimal_nonempty n h in
    let some : nat_lt 0 (length (decimal n)) ≡ true = grind (arith, nat_tests) in
    let all = decimal-digits n h in
    let value = digits_value-decimal own n h in
    let fits : nat_lt n (2 ^ 64) ≡ true = grind (arith, nat_tests) in
    rw (some, all, value, fits) refl

-- the first byte is a digit
no_minus : (text : List ℕ) → 0 < length text → list_all is_ascii_digit text ≡ true →
    signed text ≡ option_and_then (with_sign false) (unsigned text)
unfolding signed
no_minus [] some all = absurd (omega arith)
no_minus (b ∷ bs) some all =
    let digit = (and_parts (is_ascii_digit b) (list_all is_ascii_digit bs) all).0 in
    let other : (b == MINUS) ≡ false = grind (arith, nat_tests) in
    rw other refl

pub signed-decimal : (n : ℕ) → n < 2 ^ 63 → signed (decimal n) ≡ Some (pos n)
signed-decimal n h =
    let wide : n < 2 ^ 64 = omega arith in
    let fits : nat_lt n (2 ^ 63) ≡ true = grind (arith, nat_tests) in
    no_minus (decimal n) (decimal_nonempty n wide) (decimal-digits n wide)
    ∙ (ap (option_and_then (with_sign false)) (unsigned-decimal n wide) ∙ rw fits refl)
