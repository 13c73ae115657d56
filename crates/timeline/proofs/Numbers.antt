-- A number as it is written, and as it is read within a bound.
use Rattle.std.proofs.Common.{◌≡◌, ℕ, zero, suc, ◌^◌, ◌<◌, ◌≤◌, ◌==◌, nat_lt, Bool, true, false, not, ◌&&◌, ◌||◌, if◌then◌else◌, List, [], ◌∷◌, length, get_or, decimal, Option, Some, None, Result, Ok, refl, ap, sym, ◌∙◌, arith, rules}
use Rattle.std.proofs.lemmas.Bool.{and_parts}
use Rattle.std.proofs.lemmas.Bool.Decides.{nat_tests}
use Rattle.std.proofs.lemmas.Fmt.{decimal_digit, decimal_nonempty, decimal-digits_value, digits_decimal, digits_value-decimal, first_decimal}
use Rattle.std.proofs.lemmas.Str.Parse.{IsNumeralModel, numerals_by_value}
use Rattle.std.specs.Char.{is_ascii_digit}
use Rattle.std.specs.List.{list_all}
use Rattle.std.specs.Str.Parse.{digits_value}
use Rattle.text_model.specs.Numerals.{are_digits, canonical_below, is_canonical, numeral_below}
use Rattle.text_model.specs.Steps.{or_refuse}
use Rattle.text_model.specs.TimelineRead.{number_of_bits}
use Rattle.text_model.specs.declared.timeline_refusal.TimelineCause.{TimelineCause}
use Rattle.text_model.specs.declared.timeline_refusal.TimelineCause.TheVariants.{Number}

own : IsNumeralModel (λ ds. list_all is_ascii_digit ds ≡ true) (digits_value 10)
own = numerals_by_value _ (search rules)

-- what `canonical_below` comes to, by its tests
abbrev below : Bool → Bool → ℕ → ℕ → Option ℕ
below canonical digits value bound = if canonical
    then (if digits && nat_lt value bound then Some value else None) else None

below-is : (bound : ℕ) (text : List ℕ) →
    canonical_below bound text ≡ below (is_canonical text) (are_digits text) (digits_value 10 text) bound
unfolding canonical_below numeral_below
below-is bound text = refl

-- a number that was read within one bound, within a lower one

if_some : (value bound : ℕ) → value < bound → (if nat_lt value bound then Some value else None) ≡ Some value
if_some value bound low = let fits : nat_lt value bound ≡ true = grind (arith, nat_tests) in rw fits refl

if_none : (value bound : ℕ) → bound ≤ value → (if nat_lt value bound then Some value else None) ≡ None
if_none value bound high = let fits : nat_lt value bound ≡ false = grind (arith, nat_tests) in rw fits refl

value_of : (t : Bool) (value n : ℕ) → (if t then Some value else None) ≡ Some n → (t ≡ true) × (value ≡ n)
value_of true value n h = (refl, cc)
value_of false value n h = absurd (cc)

some_below : (canonical digits : Bool) (value wide bound n : ℕ) → below canonical digits value wide ≡ Some n →
    n < bound →
    below canonical digits value bound ≡ Some n
some_below true true value wide bound n h low =
    let same : value ≡ n = (value_of (nat_lt value wide) value n h).1 in
    if_some value bound (omega arith) ∙ ap Some same
some_below true false value wide bound n h low = absurd (cc)
some_below false digits value wide bound n h low = absurd (cc)

none_above : (canonical digits : Bool) (value wide bound n : ℕ) → below canonical digits value wide ≡ Some n →
    bound ≤ n →
    below canonical digits value bound ≡ None
none_above true true value wide bound n h high =
    let same : value ≡ n = (value_of (nat_lt value wide) value n h).1 in
    if_none value bound (omega arith)
none_above true false value wide bound n h high = absurd (cc)
none_above false digits value wide bound n h high = absurd (cc)

still_none : (canonical digits : Bool) (value wide bound : ℕ) → below canonical digits value wide ≡ None →
    bound ≤ wide →
    below canonical digits value bound ≡ None
still_none true true value wide bound h narrow = by (nat_lt value wide) refl h
  where
    by : (t : Bool) → nat_lt value wide ≡ t → (if t then Some value else None) ≡ None →
        (if nat_lt value bound then Some value else None) ≡ None
    by true e h = absurd (cc)
    by false e h = let high : wide ≤ value = grind (arith, nat_tests) in if_none value bound (omega arith)
still_none true false value wide bound h narrow = refl
still_none false digits value wide bound h narrow = refl

pub fits_bound : (bound : ℕ) (text : List ℕ) (n : ℕ) → Some n ≡ canonical_below (2 ^ 64) text → n < bound →
    canonical_below bound text ≡ Some n
fits_bound bound text n h low =
    below-is bound text ∙ some_below (is_canonical text) (are_digits text) (digits_value 10 text)
    (2 ^ 64) bound n
    (sym (below-is (2 ^ 64) text) ∙ sym h) low

pub over_bound : (bound : ℕ) (text : List ℕ) (n : ℕ) → Some n ≡ canonical_below (2 ^ 64) text → bound ≤ n →
    canonical_below bound text ≡ None
over_bound bound text n h high =
    below-is bound text ∙ none_above (is_canonical text) (are_digits text) (digits_value 10 text)
    (2 ^ 64) bound n
    (sym (below-is (2 ^ 64) text) ∙ sym h) high

pub no_number : (bound : ℕ) (text : List ℕ) → None ≡ canonical_below (2 ^ 64) text → bound ≤ 2 ^ 64 →
    canonical_below bound text ≡ None
no_number bound text h narrow =
    below-is bound text ∙ still_none (is_canonical text) (are_digits text) (digits_value 10 text)
    (2 ^ 64) bound
    (sym (below-is (2 ^ 64) text) ∙ sym h) narrow

-- what is written is read

decimal_canonical : (n : ℕ) → n < 2 ^ 64 → is_canonical (decimal n) ≡ true
decimal_canonical zero h = let e : decimal 0 ≡ 48 ∷ [] = decimal_digit 0 (omega arith) in rw e refl
decimal_canonical (suc n) h =
    let first : 48 < get_or (decimal (suc n)) 0 0 = first_decimal (suc n) (omega arith) h in
    let other : (get_or (decimal (suc n)) 0 0 == 48) ≡ false = grind (arith, nat_tests) in
    by (length (decimal (suc n)) == 1) (get_or (decimal (suc n)) 0 0 == 48) other
  where
    by : (one zeros : Bool) → zeros ≡ false → (one || not zeros) ≡ true
    by true zeros e = refl
    by false true e = absurd (cc)
    by false false e = refl

pub decimal_digits : (n : ℕ) → n < 2 ^ 64 → list_all is_ascii_digit (decimal n) ≡ true
decimal_digits n h = digits_decimal own n h

decimal_are_digits : (n : ℕ) → n < 2 ^ 64 → are_digits (decimal n) ≡ true
decimal_are_digits n h =
    let some : nat_lt 0 (length (decimal n)) ≡ true =
    (let k : 0 < length (decimal n) = decimal_nonempty n h in grind (arith, nat_tests)) in
    let all : list_all is_ascii_digit (decimal n) ≡ true = decimal_digits n h in
    rw (some, all) refl

pub written_read : (bound n : ℕ) → n < bound → bound ≤ 2 ^ 64 → canonical_below bound (decimal n) ≡ Some n
written_read bound n low narrow =
    let wide : n < 2 ^ 64 = omega arith in
    let c = decimal_canonical n wide in
    let d = decimal_are_digits n wide in
    let v : digits_value 10 (decimal n) ≡ n = digits_value-decimal own n wide in
    below-is bound (decimal n) ∙ (ap (λ (it : Bool). below it (are_digits (decimal n))
    (digits_value 10 (decimal n)) bound) c
    ∙ (ap (λ (it : Bool). below true it (digits_value 10 (decimal n)) bound) d
    ∙ (ap (λ (it : ℕ). below true true it bound) v ∙ if_some n bound low)))

-- what is read was written

parts : (canonical digits : Bool) (value bound n : ℕ) → below canonical digits value bound ≡ Some n →
    (canonical ≡ true) × (digits ≡ true) × (value ≡ n) × (value < bound)
parts true true value bound n h =
    let it = value_of (nat_lt value bound) value n h in
    let low : nat_lt value bound ≡ true = it.0 in
    (refl, refl, it.1, grind (arith, nat_tests))
parts true false value bound n h = absurd (cc)
parts false digits value bound n h = absurd (cc)

one_zero : (one zeros : Bool) (len first : ℕ) → (len == 1) ≡ one → (first == 48) ≡ zeros →
    (one || not zeros) ≡ true → first ≡ 48 → len ≡ 1
one_zero true zeros len first e z h f = grind (arith, nat_tests)
one_zero false true len first e z h f = absurd (cc)
one_zero false false len first e z h f = absurd (grind (arith, nat_tests))

pub read_written : (bound : ℕ) (text : List ℕ) (n : ℕ) → bound ≤ 2 ^ 64 →
    canonical_below bound text ≡ Some n →
    (decimal n ≡ text) × (n < bound)
read_written bound text n narrow h =
    let it = parts (is_canonical text) (are_digits text) (digits_value 10 text) bound n
    (sym (below-is bound text) ∙ h) in
    let low : digits_value 10 text < bound = it.3 in
    let all = and_parts (nat_lt 0 (length text)) (list_all is_ascii_digit text) it.1 in
    let first : nat_lt 0 (length text) ≡ true = all.0 in
    let some : 0 < length text = grind (arith, nat_tests) in
    let same : digits_value 10 text ≡ n = it.2 in
    let back : decimal (digits_value 10 text) ≡ text =
    decimal-digits_value own text all.1 some (one_zero (length text == 1) (get_or text 0 0 == 48)
    (length text) (get_or text 0 0) refl refl it.0) (omega arith) in
    (ap decimal (sym same) ∙ back, omega arith)

pub number_back : (bits : ℕ) (text : List ℕ) (n : ℕ) → 2 ^ bits ≤ 2 ^ 64 → number_of_bits bits text ≡ Ok n →
    (decimal n ≡ text) × (n < 2 ^ bits)
number_back bits text n narrow h = by (canonical_below (2 ^ bits) text) refl h
  where
    by : (o : Option ℕ) → canonical_below (2 ^ bits) text ≡ o →
        ◌≡◌ {A = Result ℕ TimelineCause} (or_refuse Number o) (Ok n) →
        (decimal n ≡ text) × (n < 2 ^ bits)
    by (Some m) e h = let same : m ≡ n = cc in read_written (2 ^ bits) text n narrow (e ∙ ap Some same)
    by None e h = absurd (cc)
