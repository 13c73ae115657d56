-- Sets of numbers below 1,024 as bits: number n is in the set where bit n % 64 of word n / 64 is 1.
use Rattle.std.specs.Prelude.{◌≡◌, ℕ, ◌/◌, ◌%◌, ◌<◌, ◌≤◌, Bool, true, false, nat_eq, slice_index, Option, MatchOption}
use Rattle.std.specs.Int.{bit_at}
use Rattle.number_set.specs.declared.NumberSet.{NumberSet}

unfoldable pub has_bit : ℕ → ℕ → Bool
has_bit word bit = nat_eq (bit_at word bit) 1

unfoldable pub has : NumberSet → ℕ → Bool
has set number = has_bit (slice_index set.words (number / 64)) (number % 64)

-- the least bit from `low` on that is 1, if one is
abbrev pub IsFirstBit : ℕ → ℕ → Option ℕ → Type 0
IsFirstBit word low it =
    MatchOption it ((n : ℕ) → low ≤ n → has_bit word n ≡ false)
    (λ bit. (low ≤ bit) × (bit < 64) × (has_bit word bit ≡ true)
    × ((n : ℕ) → low ≤ n → n < bit → has_bit word n ≡ false))
