-- The grammar of expressions, as reading: what a list of tokens begins with, and the tokens behind it.
--
--     expr   = sum [ compare sum ]
--     sum    = term { ("+" | "-") term }
--     term   = factor { ("*" | "/" | "%") factor }
--     factor = "-" factor | number | name | name "(" expr { "," expr } ")" | "(" expr ")"
--
-- `stop` is the text's length: the place of what is missing where the tokens end. `factor` recurses on how many more brackets
-- and signs may stand open. That this is exactly the grammar is the law of `GrammarRules`.
use Rattle.std.specs.Prelude.{ℕ, zero, suc, Bool, true, false, if◌then◌else◌, List, [], ◌∷◌, length, Option, Some, None, Result, Ok, Err}
use Rattle.std.specs.Option.{option_map_or}
use Rattle.text_model.specs.Steps.{◌>>=◌, or_refuse}
use Rattle.text_model.specs.Written.{Written, Operands, Over, Bare, And}
use Rattle.hive_model.specs.declared.expr.Binary.{Binary}
use Rattle.hive_model.specs.declared.expr.Binary.TheVariants.{Add, Sub, Mul, Div, Rem, Eq, Ne, Lt, Le, Gt, Ge}
use Rattle.text_model.specs.declared.expr_refusal.ExprRefusal.{ExprRefusal}
use Rattle.text_model.specs.declared.expr_refusal.ExprRefusal.TheVariants.{Unexpected, TooDeep}
use Rattle.text_model.specs.declared.token.Form.{Form}
use Rattle.text_model.specs.declared.token.Form.TheVariants as forms
use Rattle.text_model.specs.declared.token.Level.{Level}
use Rattle.text_model.specs.declared.token.Level.TheVariants.{Compare, Sum, Product}
use Rattle.text_model.specs.declared.token.Symbol.{Symbol}
use Rattle.text_model.specs.declared.token.Symbol.TheVariants.{Number, Name, Operator, Open, Close, Comma}
use Rattle.text_model.specs.declared.token.Token.{Token}

-- what was read, and the tokens behind it
abbrev pub Reading : Type 0
Reading = Result (Written × List Token) ExprRefusal

-- the place of the next token
abbrev pub place_at : ℕ → List Token → ℕ
place_at stop [] = stop
place_at stop (t ∷ rest) = t.at

-- operators

abbrev pub is_of : Level → Binary → Bool
is_of Sum Add = true
is_of Sum Sub = true
is_of Product Mul = true
is_of Product Div = true
is_of Product Rem = true
is_of Compare Eq = true
is_of Compare Ne = true
is_of Compare Lt = true
is_of Compare Le = true
is_of Compare Gt = true
is_of Compare Ge = true
is_of level op = false

abbrev pub operator_of : Level → Symbol → Option Binary
operator_of level (Operator op) = if is_of level op then Some op else None
operator_of level symbol = None

-- the operator of the level that the tokens begin with: its place, itself, and the tokens behind it
unfoldable pub operator_at : Level → List Token → Option (ℕ × Binary × List Token)
operator_at level [] = None
operator_at level (t ∷ rest) = option_map_or (λ op. Some (t.at, op, rest)) (operator_of level t.symbol) None

abbrev pub operation : ℕ → Binary → Written → Written → Written
operation at op left right = Over at (forms.Operator op) (And (And Bare left) right)

-- One comparison may stand alone. Of the other operators any number may follow one another, and no more do than there are tokens.
abbrev pub most : Level → List Token → ℕ
most Compare tokens = 1
most Sum tokens = length tokens
most Product tokens = length tokens

-- the left operand, grouped with what operators of the level put behind it
unfoldable pub grouped : Level → (List Token → Reading) → ℕ → Written → List Token → Reading
grouped level operand zero left tokens = Ok (left, tokens)
grouped level operand (suc n) left tokens =
    option_map_or (λ it. operand it.2 >>= λ right. grouped level operand n (operation it.0 it.1 left right.0) right.1)
    (operator_at level tokens) (Ok (left, tokens))

unfoldable pub row : Level → (List Token → Reading) → List Token → Reading
row level operand tokens = operand tokens >>= λ left. grouped level operand (most level left.1) left.0 left.1

-- what stands between the operators of a level
abbrev pub operand : Level → (List Token → Reading) → List Token → Reading
operand Product factor = factor
operand Sum factor = row Product factor
operand Compare factor = row Sum (row Product factor)

abbrev pub expr : (List Token → Reading) → List Token → Reading
expr factor = row Compare (operand Compare factor)

-- what is written, if no token is behind it
abbrev pub if_end : Written → List Token → Result Written ExprRefusal
if_end written [] = Ok written
if_end written (t ∷ rest) = Err (Unexpected t.at)

-- factors

-- a part with no operands
abbrev pub leaf : ℕ → Form → List Token → Reading
leaf at form tokens = Ok (Over at form Bare, tokens)

unfoldable pub signed : (List Token → Reading) → ℕ → List Token → Reading
signed factor at tokens = factor tokens >>= λ it. Ok (Over at forms.Sign (And Bare it.0), it.1)

abbrev pub is_open : Symbol → Bool
is_open Open = true
is_open symbol = false

abbrev pub is_close : Symbol → Bool
is_close Close = true
is_close symbol = false

abbrev pub is_comma : Symbol → Bool
is_comma Comma = true
is_comma symbol = false

-- the tokens behind a first one that passes the test
abbrev pub behind : (Symbol → Bool) → List Token → Option (List Token)
behind test [] = None
behind test (t ∷ rest) = if test t.symbol then Some rest else None

abbrev pub behind_close : ℕ → List Token → Result (List Token) ExprRefusal
behind_close stop tokens = or_refuse (Unexpected (place_at stop tokens)) (behind is_close tokens)

unfoldable pub bracketed : ℕ → (List Token → Reading) → List Token → Reading
bracketed stop factor tokens = expr factor tokens >>= λ it. behind_close stop it.1 >>= λ rest. Ok (it.0, rest)

-- the operands so far, and the further ones, each behind a comma
unfoldable pub further : (List Token → Reading) → ℕ → Operands → List Token → Result (Operands × List Token) ExprRefusal
further next zero before tokens = Ok (before, tokens)
further next (suc n) before tokens =
    option_map_or (λ rest. next rest >>= λ it. further next n (And before it.0) it.1) (behind is_comma tokens) (Ok (before, tokens))

-- the operands of a function
unfoldable pub arguments : (List Token → Reading) → List Token → Result (Operands × List Token) ExprRefusal
arguments next tokens = next tokens >>= λ it. further next (length it.1) (And Bare it.0) it.1

-- the operands of a function and its closing bracket
unfoldable pub called : ℕ → (List Token → Reading) → ℕ → ℕ → List Token → Reading
called stop factor at len tokens =
    arguments (expr factor) tokens >>= λ all. behind_close stop all.1 >>= λ rest. Ok (Over at (forms.Call len) all.0, rest)

-- goes on below one more bracket or sign, if one more may stand open
abbrev pub deeper : ℕ → Option (List Token → Reading) → ((List Token → Reading) → Reading) → Reading
deeper at None read = Err (TooDeep at)
deeper at (Some factor) read = read factor

-- a name with a bracket behind it is a function, any other is a data handle
unfoldable pub named : ℕ → Option (List Token → Reading) → ℕ → ℕ → List Token → Reading
named stop below at len tokens =
    option_map_or (λ rest. deeper (place_at stop tokens) below (λ factor. called stop factor at len rest))
    (behind is_open tokens) (leaf at (forms.Name len) tokens)

abbrev pub is_sign : Binary → Bool
is_sign Sub = true
is_sign op = false

-- the factor that a symbol begins
abbrev pub begun_by : ℕ → Option (List Token → Reading) → ℕ → Symbol → List Token → Reading
begun_by stop below at (Number n) tokens = leaf at (forms.Number n) tokens
begun_by stop below at (Name len) tokens = named stop below at len tokens
begun_by stop below at (Operator op) tokens =
    if is_sign op then deeper at below (λ factor. signed factor at tokens) else Err (Unexpected at)
begun_by stop below at Open tokens = deeper at below (λ factor. bracketed stop factor tokens)
begun_by stop below at symbol tokens = Err (Unexpected at)

abbrev pub begun : ℕ → Option (List Token → Reading) → List Token → Reading
begun stop below [] = Err (Unexpected stop)
begun stop below (t ∷ rest) = begun_by stop below t.at t.symbol rest

unfoldable pub factor : ℕ → ℕ → List Token → Reading
factor stop zero tokens = begun stop None tokens
factor stop (suc depth) tokens = begun stop (Some (factor stop depth)) tokens

-- all of the tokens, with at most `depth` brackets and signs open at once
unfoldable pub written_of : ℕ → ℕ → List Token → Result Written ExprRefusal
written_of stop depth tokens = expr (factor stop depth) tokens >>= λ it. if_end it.0 it.1
