-- The tokens of printed text.
use Rattle.std.proofs.Common.{◌≡◌, ℕ, suc, ◌+◌, ◌<◌, ◌≤◌, ◌==◌, nat_le, Bool, true, false, List, [], ◌∷◌, ◌++◌, length, take, pos, slice_index, Option, Ok, None, refl, ap, ◌∙◌, arith}
use Rattle.std.specs.Bool.{if◌then◌else◌}
use Rattle.std.specs.Char.{is_ascii_digit, is_ascii_alphabetic, digit_value}
use Rattle.std.specs.Fmt.{decimal}
use Rattle.std.specs.List.{AllByRecursion, prefix_len}
use Rattle.std.specs.Str.Parse.{AllDigits, digits_value}
use Rattle.std.proofs.lemmas.Bool.Decides.{nat_tests}
use Rattle.std.proofs.lemmas.Fmt.{decimal_is_IsNumeral}
use Rattle.std.proofs.lemmas.List.{drop_at, length-append}
use Rattle.std.proofs.Math.Seq.{take-append_seam}
use Rattle.text_model.specs.Tokens.{is_word, literal, mark, symbol_at, tokens_from}
use Rattle.hive_model.specs.declared.expr.Binary.{Binary}
use Rattle.hive_model.specs.declared.expr.Binary.TheVariants.{Add, Sub, Mul, Div, Rem, Eq, Ne, Lt, Le, Gt, Ge}
use Rattle.text_model.specs.declared.token.Symbol.{Symbol}
use Rattle.text_model.specs.declared.token.Symbol.TheVariants.{Number, Name, Operator, Open, Close, Comma}
use Rattle.text_model.specs.declared.token.Token.{Token}
use Rattle.expr_text.specs.Printed.{IsName, operator_text}
use Rattle.expr_text.proofs.Lexemes.TokenLists.{with_front, one_more, token_first, is_word-letter}

abbrev pub token : ℕ → Symbol → Token
token at symbol = record { at = at; symbol = symbol }

-- the text doesn't go on with a letter, a digit or `_`
abbrev pub Stops : List ℕ → Type 0
Stops [] = Unit {0}
Stops (b ∷ rest) = is_word b ≡ false

digit_word : (b : ℕ) → is_word b ≡ false → is_ascii_digit b ≡ false
digit_word b h = grind (arith, nat_tests)

stop_words : (rest : List ℕ) → Stops rest → prefix_len is_word rest ≡ 0
stop_words [] h = refl
stop_words (b ∷ rest) h = rw h refl

stop_digits : (rest : List ℕ) → Stops rest → prefix_len is_ascii_digit rest ≡ 0
stop_digits [] h = refl
stop_digits (b ∷ rest) h = rw (digit_word b h) refl

front_whole : (p : ℕ → Bool) (xs rest : List ℕ) → AllByRecursion (λ c. p c ≡ true) xs → prefix_len p rest ≡ 0 →
    prefix_len p (xs ++ rest) ≡ length xs
front_whole p [] rest all h = h
front_whole p (x ∷ xs) rest all h = rw all.0 (omega (arith, front_whole p xs rest all.1 h))

letter_digit : (b : ℕ) → is_ascii_alphabetic b ≡ true → is_ascii_digit b ≡ false
letter_digit b h = grind (arith, nat_tests)

letter_space : (b : ℕ) → is_ascii_alphabetic b ≡ true → (b == 32) ≡ false
letter_space b h = grind (arith, nat_tests)

digit_space : (b : ℕ) → is_ascii_digit b ≡ true → (b == 32) ≡ false
digit_space b h = grind (arith, nat_tests)

symbol-word : (at : ℕ) (bytes : List ℕ) (n : ℕ) → is_ascii_digit (slice_index bytes 0) ≡ false →
    is_ascii_alphabetic (slice_index bytes 0) ≡ true → prefix_len is_word bytes ≡ n → symbol_at at bytes ≡ Ok (Name n, n)
unfolding symbol_at
symbol-word at bytes n d a h = rw d (rw a (rw h refl))

symbol-number : (at : ℕ) (bytes : List ℕ) (n v : ℕ) → is_ascii_digit (slice_index bytes 0) ≡ true →
    prefix_len is_ascii_digit bytes ≡ n → digits_value 10 (take n bytes) ≡ v → nat_le v 9223372036854775807 ≡ true →
    symbol_at at bytes ≡ Ok (Number (pos v), n)
unfolding symbol_at literal
symbol-number at bytes n v d h k f = rw d (rw h (rw k (rw f refl)))

pub lex-name : (at : ℕ) (name rest : List ℕ) → IsName name → Stops rest →
    tokens_from at 0 (name ++ rest) ≡ with_front (token at (Name (length name)) ∷ []) (tokens_from (at + length name) 0 rest)
lex-name at [] rest is h = absurd is
lex-name at (b ∷ bs) rest is h =
    let n : prefix_len is_word (b ∷ (bs ++ rest)) ≡ suc (length bs) = front_whole is_word (b ∷ bs) rest (is_word-letter b is.0, is.1) (stop_words rest h) in
    let found = symbol-word at (b ∷ (bs ++ rest)) (suc (length bs)) (letter_digit b is.0) is.0 n in
    token_first at b (bs ++ rest) (Name (suc (length bs))) (suc (length bs)) (letter_space b is.0) found (omega arith) (omega (arith, length-append bs rest))
    ∙ ap (λ xs. with_front (token at (Name (suc (length bs))) ∷ []) (tokens_from (at + suc (length bs)) 0 xs)) (drop_at bs rest (length bs) refl)

digit_is : (c : ℕ) → digit_value c < 10 → is_ascii_digit c ≡ true
digit_is c h = grind (arith, nat_tests)

digits_are : (ds : List ℕ) → AllDigits 10 ds → AllByRecursion (λ c. is_ascii_digit c ≡ true) ds
digits_are [] all = tt
digits_are (d ∷ ds) all = (digit_is d all.0, digits_are ds all.1)

lex-digits : (at n : ℕ) (ds rest : List ℕ) → 0 < length ds → AllDigits 10 ds → digits_value 10 ds ≡ n → n ≤ 9223372036854775807 →
    Stops rest → tokens_from at 0 (ds ++ rest) ≡ with_front (token at (Number (pos n)) ∷ []) (tokens_from (at + length ds) 0 rest)
lex-digits at n [] rest some all v k h = absurd (omega arith)
lex-digits at n (d ∷ ds) rest some all v k h =
    let digits = digits_are (d ∷ ds) all in
    let len : prefix_len is_ascii_digit (d ∷ (ds ++ rest)) ≡ suc (length ds) = front_whole is_ascii_digit (d ∷ ds) rest digits (stop_digits rest h) in
    let front : digits_value 10 (take (suc (length ds)) (d ∷ (ds ++ rest))) ≡ n = ap (digits_value 10) (take-append_seam (d ∷ ds) rest) ∙ v in
    let fits : nat_le n 9223372036854775807 ≡ true = grind (arith, nat_tests) in
    let found = symbol-number at (d ∷ (ds ++ rest)) (suc (length ds)) n digits.0 len front fits in
    token_first at d (ds ++ rest) (Number (pos n)) (suc (length ds)) (digit_space d digits.0) found (omega arith) (omega (arith, length-append ds rest))
    ∙ ap (λ xs. with_front (token at (Number (pos n)) ∷ []) (tokens_from (at + suc (length ds)) 0 xs)) (drop_at ds rest (length ds) refl)

pub lex-number : (at n : ℕ) (rest : List ℕ) → n ≤ 9223372036854775807 → Stops rest →
    tokens_from at 0 (decimal n ++ rest) ≡ with_front (token at (Number (pos n)) ∷ []) (tokens_from (at + length (decimal n)) 0 rest)
lex-number at n rest k h =
    let is = decimal_is_IsNumeral n (omega arith) in
    lex-digits at n (decimal n) rest is.0.0 is.0.1 is.1 k h

either_none : {A : Type 0} (b : Bool) → ◌≡◌ {A = Option A} (if b then None else None) None
either_none true = refl
either_none false = refl

-- marks of one byte that begin no longer one
pub lex-sign : (at : ℕ) (rest : List ℕ) →
    tokens_from at 0 (45 ∷ rest) ≡ with_front (token at (Operator Sub) ∷ []) (tokens_from (at + 1) 0 rest)
unfolding symbol_at mark
lex-sign at rest = token_first at 45 rest (Operator Sub) 1 refl (rw (either_none _) refl) (omega arith) (omega arith)

pub lex-open : (at : ℕ) (rest : List ℕ) →
    tokens_from at 0 (40 ∷ rest) ≡ with_front (token at Open ∷ []) (tokens_from (at + 1) 0 rest)
unfolding symbol_at mark
lex-open at rest = token_first at 40 rest Open 1 refl (rw (either_none _) refl) (omega arith) (omega arith)

pub lex-close : (at : ℕ) (rest : List ℕ) →
    tokens_from at 0 (41 ∷ rest) ≡ with_front (token at Close ∷ []) (tokens_from (at + 1) 0 rest)
unfolding symbol_at mark
lex-close at rest = token_first at 41 rest Close 1 refl (rw (either_none _) refl) (omega arith) (omega arith)

pub lex-comma : (at : ℕ) (rest : List ℕ) →
    tokens_from at 0 (44 ∷ 32 ∷ rest) ≡ with_front (token at Comma ∷ []) (tokens_from (at + 2) 0 rest)
unfolding symbol_at mark tokens_from
lex-comma at rest = one_more _ _ ∙ ap (λ a. with_front (token at Comma ∷ []) (tokens_from a 0 rest)) (omega arith)

-- an operator between two spaces
pub lex-operator : (at : ℕ) (op : Binary) (rest : List ℕ) →
    tokens_from at 0 (operator_text op ++ rest) ≡ with_front (token (suc at) (Operator op) ∷ []) (tokens_from (at + length (operator_text op)) 0 rest)
unfolding symbol_at mark tokens_from
lex-operator at Add rest =
    one_more _ _ ∙ ap (λ a. with_front (token (suc at) (Operator Add) ∷ []) (tokens_from a 0 rest)) (omega arith)
lex-operator at Sub rest =
    one_more _ _ ∙ ap (λ a. with_front (token (suc at) (Operator Sub) ∷ []) (tokens_from a 0 rest)) (omega arith)
lex-operator at Mul rest =
    one_more _ _ ∙ ap (λ a. with_front (token (suc at) (Operator Mul) ∷ []) (tokens_from a 0 rest)) (omega arith)
lex-operator at Div rest =
    one_more _ _ ∙ ap (λ a. with_front (token (suc at) (Operator Div) ∷ []) (tokens_from a 0 rest)) (omega arith)
lex-operator at Rem rest =
    one_more _ _ ∙ ap (λ a. with_front (token (suc at) (Operator Rem) ∷ []) (tokens_from a 0 rest)) (omega arith)
lex-operator at Eq rest =
    one_more _ _ ∙ ap (λ a. with_front (token (suc at) (Operator Eq) ∷ []) (tokens_from a 0 rest)) (omega arith)
lex-operator at Ne rest =
    one_more _ _ ∙ ap (λ a. with_front (token (suc at) (Operator Ne) ∷ []) (tokens_from a 0 rest)) (omega arith)
lex-operator at Lt rest =
    one_more _ _ ∙ ap (λ a. with_front (token (suc at) (Operator Lt) ∷ []) (tokens_from a 0 rest)) (omega arith)
lex-operator at Le rest =
    one_more _ _ ∙ ap (λ a. with_front (token (suc at) (Operator Le) ∷ []) (tokens_from a 0 rest)) (omega arith)
lex-operator at Gt rest =
    one_more _ _ ∙ ap (λ a. with_front (token (suc at) (Operator Gt) ∷ []) (tokens_from a 0 rest)) (omega arith)
lex-operator at Ge rest =
    one_more _ _ ∙ ap (λ a. with_front (token (suc at) (Operator Ge) ∷ []) (tokens_from a 0 rest)) (omega arith)
