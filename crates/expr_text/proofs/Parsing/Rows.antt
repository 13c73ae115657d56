-- Rows of one and of two operands, and what ends them.
use Rattle.std.proofs.Common.{◌≡◌, ℕ, ◌+◌, ◌-◌, true, false, List, [], ◌∷◌, Ok, Some, None, refl, ◌∙◌, arith}
use Rattle.text_model.specs.Grammar.{Reading, behind, expr, is_of, is_open, most, operation, operator_at, operator_of, row}
use Rattle.text_model.specs.Written.{Written}
use Rattle.hive_model.specs.declared.expr.Binary.{Binary}
use Rattle.hive_model.specs.declared.expr.Binary.TheVariants.{Add, Sub, Mul, Div, Rem, Eq, Ne, Lt, Le, Gt, Ge}
use Rattle.text_model.specs.declared.token.Level.{Level}
use Rattle.text_model.specs.declared.token.Level.TheVariants.{Compare, Sum, Product}
use Rattle.text_model.specs.declared.token.Symbol.{Symbol}
use Rattle.text_model.specs.declared.token.Symbol.TheVariants.{Number, Name, Operator, Open, Close, Comma}
use Rattle.text_model.specs.declared.token.Token.{Token}
use Rattle.expr_text.proofs.Lexemes.Lexing.{token}
use Rattle.expr_text.proofs.Parsing.Readings.{row-begins, grouped-more, grouped-end}

-- a symbol that may stand behind an expression
abbrev pub ends_by : Symbol → Type 0
ends_by Close = Unit {0}
ends_by Comma = Unit {0}
ends_by s = ⊥

abbrev pub Ends : List Token → Type 0
Ends [] = Unit {0}
Ends (t ∷ rest) = ends_by t.symbol

no_operator : (level : Level) (s : Symbol) → ends_by s → operator_of level s ≡ None
no_operator level (Number n) h = absurd h
no_operator level (Name n) h = absurd h
no_operator level (Operator op) h = absurd h
no_operator level Open h = absurd h
no_operator level Close h = refl
no_operator level Comma h = refl

not_open : (s : Symbol) → ends_by s → is_open s ≡ false
not_open (Number n) h = absurd h
not_open (Name n) h = absurd h
not_open (Operator op) h = absurd h
not_open Open h = absurd h
not_open Close h = refl
not_open Comma h = refl

pub ends-operator : (level : Level) (more : List Token) → Ends more → operator_at level more ≡ None
unfolding operator_at
ends-operator level [] h = refl
ends-operator level (t ∷ rest) h = rw (no_operator level t.symbol h) refl

pub ends-open : (more : List Token) → Ends more → behind is_open more ≡ None
ends-open [] h = refl
ends-open (t ∷ rest) h = rw (not_open t.symbol h) refl

pub row_alone : (level : Level) (operand : List Token → Reading) (tokens more : List Token) (w : Written) →
    operand tokens ≡ Ok (w, more) → operator_at level more ≡ None → row level operand tokens ≡ Ok (w, more)
row_alone level operand tokens more w h none =
    row-begins level operand tokens more w h ∙ grouped-end level operand (most level more) w more none

most-some : (level : Level) (t : Token) (rest : List Token) → most level (t ∷ rest) ≡ most level (t ∷ rest) - 1 + 1
most-some Compare t rest = refl
most-some Sum t rest = omega arith
most-some Product t rest = omega arith

pub operator-there : (level : Level) (at : ℕ) (op : Binary) (rest : List Token) → is_of level op ≡ true →
    operator_at level (token at (Operator op) ∷ rest) ≡ Some (at, op, rest)
unfolding operator_at
operator-there level at op rest h = rw h refl

pub operator-other : (level : Level) (at : ℕ) (op : Binary) (rest : List Token) → is_of level op ≡ false →
    operator_at level (token at (Operator op) ∷ rest) ≡ None
unfolding operator_at
operator-other level at op rest h = rw h refl

pub row_two : (level : Level) (operand : List Token → Reading) (tokens behind_it more : List Token) (at : ℕ) (op : Binary) (l r : Written) →
    operand tokens ≡ Ok (l, token at (Operator op) ∷ behind_it) → is_of level op ≡ true → operand behind_it ≡ Ok (r, more) →
    operator_at level more ≡ None → row level operand tokens ≡ Ok (operation at op l r, more)
row_two level operand tokens behind_it more at op l r h is k none =
    let all = token at (Operator op) ∷ behind_it in
    row-begins level operand tokens all l h
    ∙ (grouped-more level operand (most level all) (most level all - 1) l r all behind_it more at op (most-some level (token at (Operator op)) behind_it) (operator-there level at op behind_it is) k
    ∙ grouped-end level operand (most level all - 1) (operation at op l r) more none)

-- a factor that nothing continues is an expression
pub expr_alone : (factor : List Token → Reading) (tokens more : List Token) (w : Written) → factor tokens ≡ Ok (w, more) →
    Ends more → expr factor tokens ≡ Ok (w, more)
expr_alone factor tokens more w h e =
    row_alone Compare (row Sum (row Product factor)) tokens more w
    (row_alone Sum (row Product factor) tokens more w (row_alone Product factor tokens more w h (ends-operator Product more e)) (ends-operator Sum more e))
    (ends-operator Compare more e)

by_product : (factor : List Token → Reading) (tokens behind_it more : List Token) (at : ℕ) (op : Binary) (l r : Written) →
    is_of Product op ≡ true → factor tokens ≡ Ok (l, token at (Operator op) ∷ behind_it) → factor behind_it ≡ Ok (r, more) →
    Ends more → expr factor tokens ≡ Ok (operation at op l r, more)
by_product factor tokens behind_it more at op l r is h k e =
    row_alone Compare (row Sum (row Product factor)) tokens more _
    (row_alone Sum (row Product factor) tokens more _ (row_two Product factor tokens behind_it more at op l r h is k (ends-operator Product more e)) (ends-operator Sum more e))
    (ends-operator Compare more e)

by_sum : (factor : List Token → Reading) (tokens behind_it more : List Token) (at : ℕ) (op : Binary) (l r : Written) →
    is_of Sum op ≡ true → is_of Product op ≡ false → factor tokens ≡ Ok (l, token at (Operator op) ∷ behind_it) →
    factor behind_it ≡ Ok (r, more) → Ends more → expr factor tokens ≡ Ok (operation at op l r, more)
by_sum factor tokens behind_it more at op l r is other h k e =
    row_alone Compare (row Sum (row Product factor)) tokens more _
    (row_two Sum (row Product factor) tokens behind_it more at op l r
    (row_alone Product factor tokens (token at (Operator op) ∷ behind_it) l h (operator-other Product at op behind_it other)) is
    (row_alone Product factor behind_it more r k (ends-operator Product more e)) (ends-operator Sum more e))
    (ends-operator Compare more e)

by_compare : (factor : List Token → Reading) (tokens behind_it more : List Token) (at : ℕ) (op : Binary) (l r : Written) →
    is_of Compare op ≡ true → is_of Sum op ≡ false → is_of Product op ≡ false →
    factor tokens ≡ Ok (l, token at (Operator op) ∷ behind_it) → factor behind_it ≡ Ok (r, more) → Ends more →
    expr factor tokens ≡ Ok (operation at op l r, more)
by_compare factor tokens behind_it more at op l r is other third h k e =
    let all = token at (Operator op) ∷ behind_it in
    row_two Compare (row Sum (row Product factor)) tokens behind_it more at op l r
    (row_alone Sum (row Product factor) tokens all l (row_alone Product factor tokens all l h (operator-other Product at op behind_it third)) (operator-other Sum at op behind_it other)) is
    (row_alone Sum (row Product factor) behind_it more r (row_alone Product factor behind_it more r k (ends-operator Product more e)) (ends-operator Sum more e))
    (ends-operator Compare more e)

-- two factors with an operator between them
pub expr_two : (factor : List Token → Reading) (tokens behind_it more : List Token) (at : ℕ) (op : Binary) (l r : Written) →
    factor tokens ≡ Ok (l, token at (Operator op) ∷ behind_it) → factor behind_it ≡ Ok (r, more) → Ends more →
    expr factor tokens ≡ Ok (operation at op l r, more)
expr_two factor tokens behind_it more at Mul l r h k e = by_product factor tokens behind_it more at Mul l r refl h k e
expr_two factor tokens behind_it more at Div l r h k e = by_product factor tokens behind_it more at Div l r refl h k e
expr_two factor tokens behind_it more at Rem l r h k e = by_product factor tokens behind_it more at Rem l r refl h k e
expr_two factor tokens behind_it more at Add l r h k e = by_sum factor tokens behind_it more at Add l r refl refl h k e
expr_two factor tokens behind_it more at Sub l r h k e = by_sum factor tokens behind_it more at Sub l r refl refl h k e
expr_two factor tokens behind_it more at Eq l r h k e = by_compare factor tokens behind_it more at Eq l r refl refl refl h k e
expr_two factor tokens behind_it more at Ne l r h k e = by_compare factor tokens behind_it more at Ne l r refl refl refl h k e
expr_two factor tokens behind_it more at Lt l r h k e = by_compare factor tokens behind_it more at Lt l r refl refl refl h k e
expr_two factor tokens behind_it more at Le l r h k e = by_compare factor tokens behind_it more at Le l r refl refl refl h k e
expr_two factor tokens behind_it more at Gt l r h k e = by_compare factor tokens behind_it more at Gt l r refl refl refl h k e
expr_two factor tokens behind_it more at Ge l r h k e = by_compare factor tokens behind_it more at Ge l r refl refl refl h k e
