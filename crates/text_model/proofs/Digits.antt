-- Digits in decimal.
use Rattle.std.proofs.Common.{codes, ◌≡◌, decimal, arith}
use Rattle.std.proofs.lemmas.Fmt.{decimal_digit}

pub zero_text : decimal 0 ≡ codes "0"
zero_text = decimal_digit 0 (omega arith)

pub one_text : decimal 1 ≡ codes "1"
one_text = decimal_digit 1 (omega arith)

pub two_text : decimal 2 ≡ codes "2"
two_text = decimal_digit 2 (omega arith)

pub three_text : decimal 3 ≡ codes "3"
three_text = decimal_digit 3 (omega arith)

pub four_text : decimal 4 ≡ codes "4"
four_text = decimal_digit 4 (omega arith)

pub seven_text : decimal 7 ≡ codes "7"
seven_text = decimal_digit 7 (omega arith)

pub nine_text : decimal 9 ≡ codes "9"
nine_text = decimal_digit 9 (omega arith)
