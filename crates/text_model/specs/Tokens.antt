-- The tokens of a text, from the left, each as long as possible. Only spaces stand between them.
-- A number is a run of digits, a name a letter and the letters, digits and `_` behind it; the rest are marks of one or two bytes.
use Rattle.std.specs.Prelude.{ℕ, zero, suc, ◌-◌, ◌==◌, nat_le, Bool, ◌||◌, if◌then◌else◌, List, [], ◌∷◌, take, slice_index, pos, Option, Some, None, Result, Ok, Err}
use Rattle.std.specs.Char.{is_ascii_digit, is_ascii_alphabetic, is_ascii_alphanumeric}
use Rattle.std.specs.List.{prefix_len}
use Rattle.std.specs.Option.{option_map_or}
use Rattle.std.specs.Str.Parse.{digits_value}
use Rattle.text_model.specs.Steps.{◌>>=◌}
use Rattle.hive_model.specs.declared.expr.Binary.TheVariants.{Add, Sub, Mul, Div, Rem, Eq, Ne, Lt, Le, Gt, Ge}
use Rattle.text_model.specs.declared.bytes.TheConstants.{SPACE, EXCLAMATION_MARK, PERCENT, OPEN_BRACKET, CLOSE_BRACKET, ASTERISK, PLUS, COMMA, MINUS, SLASH, LESS, EQUALS, GREATER, UNDERSCORE}
use Rattle.text_model.specs.declared.expr_refusal.ExprRefusal.{ExprRefusal}
use Rattle.text_model.specs.declared.expr_refusal.ExprRefusal.TheVariants as refusals
use Rattle.text_model.specs.declared.limits.TheConstants.{MOST_LITERAL}
use Rattle.text_model.specs.declared.token.Symbol.{Symbol}
use Rattle.text_model.specs.declared.token.Symbol.TheVariants.{Number, Name, Operator, Open, Close, Comma}
use Rattle.text_model.specs.declared.token.Token.{Token}

-- a byte that a name may go on with
abbrev pub is_word : ℕ → Bool
is_word b = is_ascii_alphanumeric b || (b == UNDERSCORE)

-- the literal that the digits write, if it fits 63 bits
unfoldable pub literal : ℕ → List ℕ → Result Symbol ExprRefusal
literal at digits =
    if nat_le (digits_value 10 digits) MOST_LITERAL then Ok (Number (pos (digits_value 10 digits))) else Err (refusals.Number at)

-- a mark that a byte makes with the `=` behind it: == != <= >=
abbrev pub double_mark : ℕ → Option Symbol
double_mark b =
    if b == EQUALS then Some (Operator Eq)
    else (if b == EXCLAMATION_MARK then Some (Operator Ne)
    else (if b == LESS then Some (Operator Le)
    else (if b == GREATER then Some (Operator Ge) else None)))

-- a mark of one byte: + - * / % < > ( ) ,
abbrev pub single_mark : ℕ → Option Symbol
single_mark b =
    if b == PLUS then Some (Operator Add)
    else (if b == MINUS then Some (Operator Sub)
    else (if b == ASTERISK then Some (Operator Mul)
    else (if b == SLASH then Some (Operator Div)
    else (if b == PERCENT then Some (Operator Rem)
    else (if b == LESS then Some (Operator Lt)
    else (if b == GREATER then Some (Operator Gt)
    else (if b == OPEN_BRACKET then Some Open
    else (if b == CLOSE_BRACKET then Some Close
    else (if b == COMMA then Some Comma else None)))))))))

-- the mark that the bytes begin with, and its length
unfoldable pub mark : ℕ → List ℕ → Result (Symbol × ℕ) ExprRefusal
mark at bytes =
    option_map_or (λ symbol. Ok (symbol, 2)) (if slice_index bytes 1 == EQUALS then double_mark (slice_index bytes 0) else None)
    (option_map_or (λ symbol. Ok (symbol, 1)) (single_mark (slice_index bytes 0)) (Err (refusals.Unexpected at)))

-- the token that the bytes begin with, and its length
unfoldable pub symbol_at : ℕ → List ℕ → Result (Symbol × ℕ) ExprRefusal
symbol_at at bytes =
    if is_ascii_digit (slice_index bytes 0) then (literal at (take (prefix_len is_ascii_digit bytes) bytes) >>= λ number. Ok (number, prefix_len is_ascii_digit bytes))
    else (if is_ascii_alphabetic (slice_index bytes 0) then Ok (Name (prefix_len is_word bytes), prefix_len is_word bytes)
    else mark at bytes)

-- the tokens of the rest of a text that begins at the byte `at`, of which the first `inside` bytes belong to a token already
unfoldable pub tokens_from : ℕ → ℕ → List ℕ → Result (List Token) ExprRefusal
tokens_from at inside [] = Ok []
tokens_from at (suc inside) (b ∷ rest) = tokens_from (suc at) inside rest
tokens_from at zero (b ∷ rest) =
    if b == SPACE then tokens_from (suc at) 0 rest
    else (symbol_at at (b ∷ rest) >>= λ first. tokens_from (suc at) (first.1 - 1) rest >>= λ others. Ok (record { at = at; symbol = first.0 } ∷ others))

unfoldable pub tokens_of : List ℕ → Result (List Token) ExprRefusal
tokens_of text = tokens_from 0 0 text
