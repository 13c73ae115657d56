-- The value of digits, one after another.
use Rattle.std.proofs.Common.{◌≡◌, ℕ, zero, suc, ◌+◌, ◌-◌, ◌*◌, ◌<◌, true, List, [], ◌∷◌, length, take, get_or, ap, ◌∙◌, arith}
use Rattle.std.proofs.lemmas.Bool.{and_parts}
use Rattle.std.proofs.lemmas.Bool.Decides.{nat_tests}
use Rattle.std.proofs.lemmas.Int.Digits.{digits_value_more}
use Rattle.std.specs.Char.{is_ascii_digit, digit_value}
use Rattle.std.specs.List.{list_all}
use Rattle.std.specs.Str.Parse.{digits_value}

pub digit-at : (ds : List ℕ) (i : ℕ) → i < length ds → list_all is_ascii_digit ds ≡ true →
    is_ascii_digit (get_or ds i 0) ≡ true
digit-at [] i h all = absurd (omega arith)
digit-at (d ∷ ds) zero h all = (and_parts (is_ascii_digit d) (list_all is_ascii_digit ds) all).0
digit-at (d ∷ ds) (suc i) h all = digit-at ds i (omega arith)
    (and_parts (is_ascii_digit d) (list_all is_ascii_digit ds) all).1

digit_value-digit : (b : ℕ) → is_ascii_digit b ≡ true → digit_value b ≡ b - 48
digit_value-digit b h = grind (arith, nat_tests)

-- with one digit more
pub value-more : (ds : List ℕ) (i : ℕ) → i < length ds → list_all is_ascii_digit ds ≡ true →
    digits_value 10 (take (i + 1) ds) ≡ digits_value 10 (take i ds) * 10 + (get_or ds i 0 - 48)
value-more ds i h all =
    digits_value_more 10 ds i h ∙ ap (λ n. digits_value 10 (take i ds) * 10 + n)
    (digit_value-digit _ (digit-at ds i h all))
