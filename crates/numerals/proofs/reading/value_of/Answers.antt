use Rattle.std.proofs.Common.{◌≤◌, ◌+◌, ◌^◌, arith}
use Rattle.std.proofs.lemmas.Bool.Decides.{nat_tests}
use Rattle.std.proofs.lemmas.Str.Parse.{digits_value-take-le}
use Rattle.std.specs.Str.Parse.{digits_value}
use Rattle.numerals.proofs.Digits.{value-more}
use Rattle.numerals.proofs.reading.value_of.Goals as goal

pub returns-then-value-gt-MOST_BEFORE_A_DIGIT : goal.returns-then-value-gt-MOST_BEFORE_A_DIGIT
returns-then-value-gt-MOST_BEFORE_A_DIGIT c =
    let ds = c.args.digits.now in
    let i = c.loop-digit.digit-index in
    let e = value-more ds i c.loop-digit-test.true c.requires in
    let below = digits_value-take-le 10 ds (i + 1) (omega arith) in
    let large : 2 ^ 64 ≤ digits_value 10 ds = omega arith in
    grind (arith, nat_tests)

pub returns-then-ones-tens : goal.returns-then-ones-tens
returns-then-ones-tens c =
    let ds = c.args.digits.now in
    let i = c.loop-digit.digit-index in
    let e = value-more ds i c.loop-digit-test.true c.requires in
    let below = digits_value-take-le 10 ds (i + 1) (omega arith) in
    let large : 2 ^ 64 ≤ digits_value 10 ds = omega arith in
    grind (arith, nat_tests)

pub loop-digit-preserved : goal.loop-digit-preserved
loop-digit-preserved c =
    let ds = c.args.digits.now in
    let i = c.loop-digit.digit-index in
    let e = value-more ds i c.loop-digit-test.true c.requires in
    omega arith
