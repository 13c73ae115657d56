-- Numerals: one or more digits, and a `-` before them where a number may be below 0. Leading zeros are accepted, but not in a
-- canonical numeral. A number that doesn't fit its bits is none.
use Rattle.std.specs.Prelude.{ℕ, ◌^◌, ◌==◌, nat_lt, nat_le, Bool, true, false, not, ◌&&◌, ◌||◌, if◌then◌else◌, ℤ, pos, neg_ℤ, List, [], ◌∷◌, length, slice_index, Option, Some, None}
use Rattle.std.specs.Char.{is_ascii_digit}
use Rattle.std.specs.List.{list_all}
use Rattle.std.specs.Option.{option_and_then}
use Rattle.std.specs.Str.Parse.{digits_value}
use Rattle.text_model.specs.declared.bytes.TheConstants.{MINUS, ZERO}

abbrev pub are_digits : List ℕ → Bool
are_digits text = nat_lt 0 (length text) && list_all is_ascii_digit text

-- the number that the digits write, if it is below the bound
unfoldable pub numeral_below : ℕ → List ℕ → Option ℕ
numeral_below bound text = if are_digits text && nat_lt (digits_value 10 text) bound then Some (digits_value 10 text) else None

abbrev pub unsigned : List ℕ → Option ℕ
unsigned text = numeral_below (2 ^ 64) text

-- up to 2 ^ 63 - 1, and with the sign up to 2 ^ 63
abbrev pub with_sign : Bool → ℕ → Option ℤ
with_sign false n = if nat_lt n (2 ^ 63) then Some (pos n) else None
with_sign true n = if nat_le n (2 ^ 63) then Some (neg_ℤ (pos n)) else None

unfoldable pub signed : List ℕ → Option ℤ
signed [] = None
signed (b ∷ bs) =
    if b == MINUS then option_and_then (with_sign true) (unsigned bs) else option_and_then (with_sign false) (unsigned (b ∷ bs))

-- no zero stands before other digits
abbrev pub is_canonical : List ℕ → Bool
is_canonical text = (length text == 1) || not (slice_index text 0 == ZERO)

-- the number that is written just so in decimal, if it is below the bound
unfoldable pub canonical_below : ℕ → List ℕ → Option ℕ
canonical_below bound text = if is_canonical text then numeral_below bound text else None
