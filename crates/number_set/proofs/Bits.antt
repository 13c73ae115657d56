-- Sets of numbers as bits of words.
use Rattle.std.proofs.Common.{◌≡◌, ◌≢◌, ℕ, ◌+◌, ◌-◌, ◌*◌, ◌/◌, ◌%◌, ◌^◌, ◌<◌, ◌≤◌, true, false, ◌||◌, ◌&&◌, ◌⊎◌, inl, inr, ⊎_elim, not, nat_eq, Option, Some, None, MatchOption, zero, suc, List, length, get_or, set, replicate, min, refl, sym, ap, ◌∙◌, get_or-set_same, get_or-set_other, arith}
use Rattle.std.specs.Int.{bit_at, bit_not, w64, trailing_zeros}
use lib.Bits.{bit_and, bit_or}
use Rattle.std.proofs.lemmas.Bool.{cases_lt, ne_eqb}
use Rattle.std.proofs.lemmas.Bool.Decides.{eqb_tells}
use Rattle.std.proofs.lemmas.List.{get_or_past}
use Rattle.std.proofs.lemmas.Nat.{le_or_l, le_or_r}
use Rattle.std.proofs.lemmas.Nat.Bits.{bit_at-zero, bit_at_and, bit_at_not, bit_at-lt, bit_at_above, bit_at_mask_below, bit_at_mask_inside, bit_at-trailing_zeros, ones_shl}
use Rattle.number_set.specs.Numbers.{has_bit}

-- one word

pub bit_of_zero : (n : ℕ) → has_bit 0 n ≡ false
unfolding has_bit
bit_of_zero n = ap (λ b. nat_eq b 1) (bit_at-zero n)

pub same_bit : (v w n : ℕ) → bit_at v n ≡ bit_at w n → has_bit v n ≡ has_bit w n
unfolding has_bit
same_bit v w n e = ap (λ b. nat_eq b 1) e

pub bit_one : (w n : ℕ) → bit_at w n ≡ 1 → has_bit w n ≡ true
unfolding has_bit
bit_one w n e = ap (λ b. nat_eq b 1) e

pub bit_none : (w n : ℕ) → bit_at w n ≡ 0 → has_bit w n ≡ false
unfolding has_bit
bit_none w n e = ap (λ b. nat_eq b 1) e

least : (a b : ℕ) → a < 2 → b < 2 → nat_eq (min a (1 - b)) 1 ≡ (nat_eq a 1 && not (nat_eq b 1))
least a b h k = at a b (below a h) (below b k)
  where
    below : (n : ℕ) → n < 2 → (n ≡ 0) ⊎ (n ≡ 1)
    below n h = ⊎_elim (λ (lt : n < 1). inl (omega arith)) (λ (ge : 1 ≤ n). inr (omega arith)) (cases_lt n 1)

    at : (a b : ℕ) → (a ≡ 0) ⊎ (a ≡ 1) → (b ≡ 0) ⊎ (b ≡ 1) → nat_eq (min a (1 - b)) 1 ≡ (nat_eq a 1 && not (nat_eq b 1))
    at a b (inl x) (inl y) = rw (x, y) refl
    at a b (inl x) (inr y) = rw (x, y) refl
    at a b (inr x) (inl y) = rw (x, y) refl
    at a b (inr x) (inr y) = rw (x, y) refl

pub bits_without : (v w n : ℕ) → w < 2 ^ 64 → n < 64 → has_bit (bit_and v (bit_not w64 w)) n ≡ (has_bit v n && not (has_bit w n))
unfolding has_bit
bits_without v w n fits lt =
    ap (λ b. nat_eq b 1) (bit_at_and v (bit_not w64 w) n ∙ ap (min (bit_at v n)) (bit_at_not w64 w n fits lt))
    ∙ least (bit_at v n) (bit_at w n) (bit_at-lt v n) (bit_at-lt w n)

-- bits from a low one on

pub high_bit : (word low n : ℕ) → low ≤ n → n < 64 → bit_at (bit_and word (2 ^ 64 - 2 ^ low)) n ≡ bit_at word n
high_bit word low n h lt =
    bit_at_and word (2 ^ 64 - 2 ^ low) n
    ∙ ap (min (bit_at word n)) (bit_at_mask_inside low 64 n h lt)
    ∙ (let small = bit_at-lt word n in omega (arith, small))

pub low_bit : (word low n : ℕ) → n < low → bit_at (bit_and word (2 ^ 64 - 2 ^ low)) n ≡ 0
low_bit word low n h =
    bit_at_and word (2 ^ 64 - 2 ^ low) n
    ∙ ap (min (bit_at word n)) (bit_at_mask_below low 64 n h)
    ∙ (omega arith)

pub no_high_bits : (word low : ℕ) → word < 2 ^ 64 → bit_and word (2 ^ 64 - 2 ^ low) ≡ 0 → (n : ℕ) → low ≤ n → has_bit word n ≡ false
no_high_bits word low fits none n h = bit_none word n (by (cases_lt n 64))
  where
    by : (n < 64) ⊎ (64 ≤ n) → bit_at word n ≡ 0
    by (inl lt) = sym (high_bit word low n h lt) ∙ ap (λ w. bit_at w n) none ∙ bit_at-zero n
    by (inr far) = bit_at_above word 64 n fits far

-- words

-- n is this number, or stands elsewhere
pub set_bit : (words : List ℕ) (number word at bit n : ℕ) → at ≡ number / 64 → bit ≡ number % 64 → at < length words → has_bit word bit ≡ true →
    ((k : ℕ) → k < 64 → nat_eq k bit ≡ false → has_bit word k ≡ has_bit (get_or words at 0) k) →
    has_bit (get_or (set words at word) (n / 64) 0) (n % 64) ≡ (nat_eq n number || has_bit (get_or words (n / 64) 0) (n % 64))
set_bit words number word at bit n at_is bit_is within one others = by (eqb_tells n number) (eqb_tells (n / 64) at)
  where
    by : ((nat_eq n number ≡ true) × (n ≡ number)) ⊎ ((nat_eq n number ≡ false) × (n ≢ number)) →
        ((nat_eq (n / 64) at ≡ true) × (n / 64 ≡ at)) ⊎ ((nat_eq (n / 64) at ≡ false) × (n / 64 ≢ at)) →
        has_bit (get_or (set words at word) (n / 64) 0) (n % 64) ≡ (nat_eq n number || has_bit (get_or words (n / 64) 0) (n % 64))
    by (inl same) place =
        let here : n / 64 ≡ at = ap (λ k. k / 64) same.1 ∙ sym at_is in
        let low : n % 64 ≡ bit = ap (λ k. k % 64) same.1 ∙ sym bit_is in
        ap (λ k. has_bit (get_or (set words at word) k 0) (n % 64)) here
        ∙ ap (λ w. has_bit w (n % 64)) (get_or-set_same words at word 0 within)
        ∙ ap (has_bit word) low
        ∙ one
        ∙ sym (ap (λ b. b || has_bit (get_or words (n / 64) 0) (n % 64)) same.0)
    by (inr other) (inl place) =
        let differ : n % 64 ≢ bit = λ e. other.1 (omega arith) in
        ap (λ k. has_bit (get_or (set words at word) k 0) (n % 64)) place.1
        ∙ ap (λ w. has_bit w (n % 64)) (get_or-set_same words at word 0 within)
        ∙ others (n % 64) (omega arith) (ne_eqb (n % 64) bit differ)
        ∙ ap (λ k. has_bit (get_or words k 0) (n % 64)) (sym place.1)
        ∙ sym (ap (λ b. b || has_bit (get_or words (n / 64) 0) (n % 64)) other.0)
    by (inr other) (inr place) =
        ap (λ w. has_bit w (n % 64)) (get_or-set_other words at (n / 64) word 0 place.1)
        ∙ sym (ap (λ b. b || has_bit (get_or words (n / 64) 0) (n % 64)) other.0)

pub clear_bit : (words : List ℕ) (number word at bit n : ℕ) → at ≡ number / 64 → bit ≡ number % 64 → at < length words → has_bit word bit ≡ false →
    ((k : ℕ) → k < 64 → nat_eq k bit ≡ false → has_bit word k ≡ has_bit (get_or words at 0) k) →
    has_bit (get_or (set words at word) (n / 64) 0) (n % 64) ≡ (not (nat_eq n number) && has_bit (get_or words (n / 64) 0) (n % 64))
clear_bit words number word at bit n at_is bit_is within none others = by (eqb_tells n number) (eqb_tells (n / 64) at)
  where
    by : ((nat_eq n number ≡ true) × (n ≡ number)) ⊎ ((nat_eq n number ≡ false) × (n ≢ number)) →
        ((nat_eq (n / 64) at ≡ true) × (n / 64 ≡ at)) ⊎ ((nat_eq (n / 64) at ≡ false) × (n / 64 ≢ at)) →
        has_bit (get_or (set words at word) (n / 64) 0) (n % 64) ≡ (not (nat_eq n number) && has_bit (get_or words (n / 64) 0) (n % 64))
    by (inl same) place =
        let here : n / 64 ≡ at = ap (λ k. k / 64) same.1 ∙ sym at_is in
        let low : n % 64 ≡ bit = ap (λ k. k % 64) same.1 ∙ sym bit_is in
        ap (λ k. has_bit (get_or (set words at word) k 0) (n % 64)) here
        ∙ ap (λ w. has_bit w (n % 64)) (get_or-set_same words at word 0 within)
        ∙ ap (has_bit word) low
        ∙ none
        ∙ sym (ap (λ b. not b && has_bit (get_or words (n / 64) 0) (n % 64)) same.0)
    by (inr other) (inl place) =
        let differ : n % 64 ≢ bit = λ e. other.1 (omega arith) in
        ap (λ k. has_bit (get_or (set words at word) k 0) (n % 64)) place.1
        ∙ ap (λ w. has_bit w (n % 64)) (get_or-set_same words at word 0 within)
        ∙ others (n % 64) (omega arith) (ne_eqb (n % 64) bit differ)
        ∙ ap (λ k. has_bit (get_or words k 0) (n % 64)) (sym place.1)
        ∙ sym (ap (λ b. not b && has_bit (get_or words (n / 64) 0) (n % 64)) other.0)
    by (inr other) (inr place) =
        ap (λ w. has_bit w (n % 64)) (get_or-set_other words at (n / 64) word 0 place.1)
        ∙ sym (ap (λ b. not b && has_bit (get_or words (n / 64) 0) (n % 64)) other.0)

pub no_words : (count i : ℕ) → ◌≡◌ {A = ℕ} (get_or (replicate count 0) i 0) 0
no_words zero i = refl
no_words (suc count) zero = refl
no_words (suc count) (suc i) = no_words count i

-- the words of one set without those of another, place by place

abbrev pub IsWithout : List ℕ → List ℕ → List ℕ → ℕ → Type 0
IsWithout left words others below =
    (p k : ℕ) → p < below → k < 64 → has_bit (get_or left p 0) k ≡ (has_bit (get_or words p 0) k && not (has_bit (get_or others p 0) k))

pub without_more : (left words others : List ℕ) (at word : ℕ) → at < length left → IsWithout left words others at →
    ((k : ℕ) → k < 64 → has_bit word k ≡ (has_bit (get_or words at 0) k && not (has_bit (get_or others at 0) k))) →
    IsWithout (set left at word) words others (at + 1)
without_more left words others at word within so_far here = λ p k lt bit. by p k lt bit (eqb_tells p at)
  where
    by : (p k : ℕ) → p < at + 1 → k < 64 → ((nat_eq p at ≡ true) × (p ≡ at)) ⊎ ((nat_eq p at ≡ false) × (p ≢ at)) →
        has_bit (get_or (set left at word) p 0) k ≡ (has_bit (get_or words p 0) k && not (has_bit (get_or others p 0) k))
    by p k lt bit (inl same) =
        ap (λ i. has_bit (get_or (set left at word) i 0) k) same.1
        ∙ ap (λ w. has_bit w k) (get_or-set_same left at word 0 within)
        ∙ here k bit
        ∙ sym (ap (λ i. has_bit (get_or words i 0) k && not (has_bit (get_or others i 0) k)) same.1)
    by p k lt bit (inr other) =
        let other_place : p ≢ at = other.1 in
        ap (λ w. has_bit w k) (get_or-set_other left at p word 0 other.1)
        ∙ so_far p k (omega arith) bit

pub without_all : (left words others : List ℕ) (below n : ℕ) → length left ≤ below → length words ≤ below → IsWithout left words others below →
    has_bit (get_or left (n / 64) 0) (n % 64) ≡ (has_bit (get_or words (n / 64) 0) (n % 64) && not (has_bit (get_or others (n / 64) 0) (n % 64)))
without_all left words others below n long whole so_far = by (cases_lt (n / 64) below)
  where
    by : (n / 64 < below) ⊎ (below ≤ n / 64) →
        has_bit (get_or left (n / 64) 0) (n % 64) ≡ (has_bit (get_or words (n / 64) 0) (n % 64) && not (has_bit (get_or others (n / 64) 0) (n % 64)))
    by (inl lt) = so_far (n / 64) (n % 64) lt (omega arith)
    by (inr far) =
        ap (λ w. has_bit w (n % 64)) (get_or_past left (n / 64) 0 (omega arith)) ∙ bit_of_zero (n % 64)
        ∙ sym (ap (λ b. b && not (has_bit (get_or others (n / 64) 0) (n % 64)))
        (ap (λ w. has_bit w (n % 64)) (get_or_past words (n / 64) 0 (omega arith)) ∙ bit_of_zero (n % 64)))

-- the least bit of a word from a low one on

pub high_word : (word low : ℕ) → low < 64 → bit_and word ((2 ^ 64 - 1) * 2 ^ low % 2 ^ 64) ≡ bit_and word (2 ^ 64 - 2 ^ low)
high_word word low h = ap (bit_and word) (ones_shl 64 low (omega arith))

pub record IsLeast (word low bit : ℕ) : Type 0 where
  pub from_low : low ≤ bit
  pub within : bit < 64
  pub is_one : has_bit word bit ≡ true
  pub first : (n : ℕ) → low ≤ n → n < bit → has_bit word n ≡ false

pub least_bit : (word low high : ℕ) → low < 64 → word < 2 ^ 64 → high ≡ bit_and word (2 ^ 64 - 2 ^ low) → high < 2 ^ 64 → 0 < high →
    IsLeast word low (trailing_zeros w64 high)
least_bit word low high h fits high_is high_fits some =
    let it = bit_at-trailing_zeros w64 high some high_fits in
    let bit : ℕ = trailing_zeros w64 high in
    let lt : bit < 64 = it.0 in
    let one : bit_at (bit_and word (2 ^ 64 - 2 ^ low)) bit ≡ 1 = ap (λ w. bit_at w bit) (sym high_is) ∙ it.1 in
    let from : low ≤ bit = above low bit one in
    record {
      from_low = from;
      within = lt;
      is_one = bit_one word bit (sym (high_bit word low bit from lt) ∙ one);
      first = λ n up down.
          let less : n < 64 = omega arith in
          bit_none word n (sym (high_bit word low n up less) ∙ ap (λ w. bit_at w n) (sym high_is) ∙ it.2 n down);
    }
  where
    above : (low bit : ℕ) → bit_at (bit_and word (2 ^ 64 - 2 ^ low)) bit ≡ 1 → low ≤ bit
    above low bit one = by (cases_lt bit low)
      where
        by : (bit < low) ⊎ (low ≤ bit) → low ≤ bit
        by (inl below) = let none = low_bit word low bit below in absurd (omega (arith, one, none))
        by (inr up) = up

-- a set by its words, from a number on

pub numbers_below : (words : List ℕ) (from place : ℕ) →
    ((n : ℕ) → from ≤ n → n < 64 * place → has_bit (get_or words (n / 64) 0) (n % 64) ≡ false) →
    ((k : ℕ) → from - 64 * place ≤ k → k < 64 → has_bit (get_or words place 0) k ≡ false) →
    (n : ℕ) → from ≤ n → n < 64 * (place + 1) → has_bit (get_or words (n / 64) 0) (n % 64) ≡ false
numbers_below words from place so_far here n h lt = by (cases_lt n (64 * place))
  where
    by : (n < 64 * place) ⊎ (64 * place ≤ n) → has_bit (get_or words (n / 64) 0) (n % 64) ≡ false
    by (inl less) = so_far n h less
    by (inr up) =
        let at : n / 64 ≡ place = omega arith in
        ap (λ p. has_bit (get_or words p 0) (n % 64)) at ∙ here (n % 64) (omega arith) (omega arith)

pub numbers_up_to : (words : List ℕ) (from place bit : ℕ) →
    ((n : ℕ) → from ≤ n → n < 64 * place → has_bit (get_or words (n / 64) 0) (n % 64) ≡ false) →
    bit < 64 →
    ((k : ℕ) → from - 64 * place ≤ k → k < bit → has_bit (get_or words place 0) k ≡ false) →
    (n : ℕ) → from ≤ n → n < 64 * place + bit → has_bit (get_or words (n / 64) 0) (n % 64) ≡ false
numbers_up_to words from place bit so_far fits here n h lt = by (cases_lt n (64 * place))
  where
    by : (n < 64 * place) ⊎ (64 * place ≤ n) → has_bit (get_or words (n / 64) 0) (n % 64) ≡ false
    by (inl less) = so_far n h less
    by (inr up) =
        let at : n / 64 ≡ place = omega arith in
        ap (λ p. has_bit (get_or words p 0) (n % 64)) at ∙ here (n % 64) (omega arith) (omega arith)

pub number_at : (words : List ℕ) (place bit : ℕ) → bit < 64 → has_bit (get_or words place 0) bit ≡ true →
    has_bit (get_or words ((64 * place + bit) / 64) 0) ((64 * place + bit) % 64) ≡ true
number_at words place bit lt one =
    let at : (64 * place + bit) / 64 ≡ place = omega arith in
    let low : (64 * place + bit) % 64 ≡ bit = omega arith in
    ap (λ p. has_bit (get_or words p 0) ((64 * place + bit) % 64)) at ∙ ap (has_bit (get_or words place 0)) low ∙ one

pub no_more_numbers : (words : List ℕ) (from place : ℕ) → length words ≤ place →
    ((n : ℕ) → from ≤ n → n < 64 * place → has_bit (get_or words (n / 64) 0) (n % 64) ≡ false) →
    (n : ℕ) → from ≤ n → has_bit (get_or words (n / 64) 0) (n % 64) ≡ false
no_more_numbers words from place long so_far n h = by (cases_lt n (64 * place))
  where
    by : (n < 64 * place) ⊎ (64 * place ≤ n) → has_bit (get_or words (n / 64) 0) (n % 64) ≡ false
    by (inl less) = so_far n h less
    by (inr up) = ap (λ w. has_bit w (n % 64)) (get_or_past words (n / 64) 0 (omega arith)) ∙ bit_of_zero (n % 64)

-- the words after the first

pub one_more_word : (words : List ℕ) (place others : ℕ) → ((p : ℕ) → 1 ≤ p → p < place → get_or words p 0 ≤ others) →
    (p : ℕ) → 1 ≤ p → p < place + 1 → get_or words p 0 ≤ bit_or others (get_or words place 0)
one_more_word words place others so_far p some lt = by (eqb_tells p place)
  where
    by : ((nat_eq p place ≡ true) × (p ≡ place)) ⊎ ((nat_eq p place ≡ false) × (p ≢ place)) →
        get_or words p 0 ≤ bit_or others (get_or words place 0)
    by (inl same) = rw same.1 (le_or_r others (get_or words place 0))
    by (inr other) =
        let differ : p ≢ place = other.1 in
        let before : get_or words p 0 ≤ others = so_far p some (omega (arith, differ)) in
        let grown : others ≤ bit_or others (get_or words place 0) = le_or_l others (get_or words place 0) in
        omega (arith, before, grown)

pub no_other_words : (words : List ℕ) (below : ℕ) → length words ≤ below → ((p : ℕ) → 1 ≤ p → p < below → get_or words p 0 ≤ 0) →
    (n : ℕ) → 64 ≤ n → has_bit (get_or words (n / 64) 0) (n % 64) ≡ false
no_other_words words below long none n up = ap (λ w. has_bit w (n % 64)) (by (cases_lt (n / 64) below)) ∙ bit_of_zero (n % 64)
  where
    by : (n / 64 < below) ⊎ (below ≤ n / 64) → get_or words (n / 64) 0 ≡ 0
    by (inl lt) = let zero_word : get_or words (n / 64) 0 ≤ 0 = none (n / 64) (omega arith) lt in omega (arith, zero_word)
    by (inr far) = get_or_past words (n / 64) 0 (omega arith)

-- a set whose word at the place of `from` is looked at first

pub from_first_word : (words : List ℕ) (from : ℕ) →
    ((k : ℕ) → from % 64 ≤ k → k < 64 → has_bit (get_or words (from / 64) 0) k ≡ false) →
    (n : ℕ) → from ≤ n → n < 64 * (from / 64 + 1) → has_bit (get_or words (n / 64) 0) (n % 64) ≡ false
from_first_word words from here n h lt =
    let at : n / 64 ≡ from / 64 = omega arith in
    ap (λ p. has_bit (get_or words p 0) (n % 64)) at ∙ here (n % 64) (omega (arith, at)) (omega arith)

pub first_after : (words : List ℕ) (from first most : ℕ) (it : Option ℕ) → first ≡ from →
    ((k : ℕ) → from % 64 ≤ k → k < 64 → has_bit (get_or words (from / 64) 0) k ≡ false) →
    MatchOption it ((n : ℕ) → 64 * (first / 64 + 1) ≤ n → has_bit (get_or words (n / 64) 0) (n % 64) ≡ false)
    (λ it. (64 * (first / 64 + 1) ≤ it) × (it < most) × (has_bit (get_or words (it / 64) 0) (it % 64) ≡ true)
    × ((n : ℕ) → 64 * (first / 64 + 1) ≤ n → n < it → has_bit (get_or words (n / 64) 0) (n % 64) ≡ false)) →
    MatchOption it ((n : ℕ) → from ≤ n → has_bit (get_or words (n / 64) 0) (n % 64) ≡ false)
    (λ it. (from ≤ it) × (it < most) × (has_bit (get_or words (it / 64) 0) (it % 64) ≡ true)
    × ((n : ℕ) → from ≤ n → n < it → has_bit (get_or words (n / 64) 0) (n % 64) ≡ false))
first_after words from first most None same here later = λ n h. by n h (cases_lt n (64 * (from / 64 + 1)))
  where
    by : (n : ℕ) → from ≤ n → (n < 64 * (from / 64 + 1)) ⊎ (64 * (from / 64 + 1) ≤ n) → has_bit (get_or words (n / 64) 0) (n % 64) ≡ false
    by n h (inl lt) = from_first_word words from here n h lt
    by n h (inr up) = later n (omega (arith, same))
first_after words from first most (Some number) same here later = (
  omega (arith, same, later.0),
  later.1,
  later.2,
  λ n h lt. by n h lt (cases_lt n (64 * (from / 64 + 1))),
)
  where
    by : (n : ℕ) → from ≤ n → n < number → (n < 64 * (from / 64 + 1)) ⊎ (64 * (from / 64 + 1) ≤ n) →
        has_bit (get_or words (n / 64) 0) (n % 64) ≡ false
    by n h lt (inl low) = from_first_word words from here n h low
    by n h lt (inr up) = later.3 n (omega (arith, same)) lt
