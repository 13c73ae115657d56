use Rattle.std.proofs.Common.{◌≡◌, ℕ, ◌≤◌, ◌+◌, ◌-◌, ◌*◌, ◌<◌, true, List, length, take, get_or, ap, ◌∙◌, arith}
use Rattle.std.proofs.lemmas.Bool.Decides.{nat_tests}
use Rattle.std.proofs.lemmas.Int.Digits.{digits_value_more}
use Rattle.std.proofs.lemmas.Str.Parse.{digits_value-take-le}
use Rattle.std.specs.Char.{is_ascii_digit, digit_value}
use Rattle.std.specs.Str.Parse.{digits_value}
use Rattle.expr_text.proofs.symbols.value.Goals as goal

-- the value of a digit
digit_value-digit : (b : ℕ) → is_ascii_digit b ≡ true → digit_value b ≡ b - 48
digit_value-digit b h = grind (arith, nat_tests)

-- one digit more
next : (ds : List ℕ) (i : ℕ) → i < length ds → is_ascii_digit (get_or ds i 0) ≡ true →
    digits_value 10 (take (i + 1) ds) ≡ digits_value 10 (take i ds) * 10 + (get_or ds i 0 - 48)
next ds i h d = digits_value_more 10 ds i h ∙ ap (λ n. digits_value 10 (take i ds) * 10 + n) (digit_value-digit _ d)

pub returns-then-value : goal.returns-then-value
returns-then-value c =
    let ds = c.args.digits.now in
    let i = c.loop-digit.digit-index in
    let e = next ds i c.loop-digit-test.true (c.requires i 0 c.loop-digit-test.true) in
    let below = digits_value-take-le 10 ds (i + 1) (omega arith) in
    let large : 9223372036854775807 < digits_value 10 ds = omega arith in
    grind (arith, nat_tests)

pub loop-digit-preserved : goal.loop-digit-preserved
loop-digit-preserved c =
    let ds = c.args.digits.now in
    let i = c.loop-digit.digit-index in
    let d = c.requires i 0 c.loop-digit-test.true in
    let e = next ds i c.loop-digit-test.true d in
    let small : get_or ds i 0 - 48 ≤ 9 = grind (arith, nat_tests) in
    (omega arith, omega arith)
