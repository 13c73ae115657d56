-- The grammar of expressions as rules, each one alternative:
--
--     expr   = sum [ compare sum ]
--     sum    = term { ("+" | "-") term }
--     term   = factor { ("*" | "/" | "%") factor }
--     factor = "-" factor | number | name | name "(" expr { "," expr } ")" | "(" expr ")"
--
-- `IsExpr depth tokens w rest` says that the tokens are those of the expression w and then the rest, with at most `depth` brackets
-- and signs open at once; so for the other rules. A row of operators is grouped from the left.
use Rattle.std.specs.Prelude.{◌≡◌, ℕ, suc, ℤ, true, List, ◌∷◌}
use Rattle.text_model.specs.Grammar.{is_of, operation}
use Rattle.text_model.specs.Written.{Written, Operands, Over, Bare, And}
use Rattle.hive_model.specs.declared.expr.Binary.{Binary}
use Rattle.hive_model.specs.declared.expr.Binary.TheVariants.{Sub}
use Rattle.text_model.specs.declared.token.Form.TheVariants as forms
use Rattle.text_model.specs.declared.token.Level.TheVariants as levels
use Rattle.text_model.specs.declared.token.Symbol.{Symbol}
use Rattle.text_model.specs.declared.token.Symbol.TheVariants.{Number, Name, Operator, Open, Close, Comma}
use Rattle.text_model.specs.declared.token.Token.{Token}

abbrev pub token : ℕ → Symbol → Token
token at symbol = record { at = at; symbol = symbol }

mutual
  pub data IsFactor : ℕ → List Token → Written → List Token → Type 0 where
    number : (depth at : ℕ) (n : ℤ) (rest : List Token) → IsFactor depth (token at (Number n) ∷ rest) (Over at (forms.Number n) Bare) rest
    handle : (depth at len : ℕ) (rest : List Token) → IsFactor depth (token at (Name len) ∷ rest) (Over at (forms.Name len) Bare) rest
    sign : (depth at : ℕ) (tokens rest : List Token) (w : Written) → IsFactor depth tokens w rest → IsFactor (suc depth) (token at (Operator Sub) ∷ tokens) (Over at forms.Sign (And Bare w)) rest
    brackets : (depth at close : ℕ) (tokens rest : List Token) (w : Written) → IsExpr depth tokens w (token close Close ∷ rest) → IsFactor (suc depth) (token at Open ∷ tokens) w rest
    call : (depth at len second close : ℕ) (tokens rest : List Token) (all : Operands) → AreExprs depth tokens all (token close Close ∷ rest) → IsFactor (suc depth) (token at (Name len) ∷ token second Open ∷ tokens) (Over at (forms.Call len) all) rest

  pub data IsTerm : ℕ → List Token → Written → List Token → Type 0 where
    factor_alone : (depth : ℕ) (tokens rest : List Token) (w : Written) → IsFactor depth tokens w rest → IsTerm depth tokens w rest
    times : (depth at : ℕ) (op : Binary) (tokens more rest : List Token) (l r : Written) → is_of levels.Product op ≡ true → IsTerm depth tokens l (token at (Operator op) ∷ more) → IsFactor depth more r rest → IsTerm depth tokens (operation at op l r) rest

  pub data IsSum : ℕ → List Token → Written → List Token → Type 0 where
    term_alone : (depth : ℕ) (tokens rest : List Token) (w : Written) → IsTerm depth tokens w rest → IsSum depth tokens w rest
    plus : (depth at : ℕ) (op : Binary) (tokens more rest : List Token) (l r : Written) → is_of levels.Sum op ≡ true → IsSum depth tokens l (token at (Operator op) ∷ more) → IsTerm depth more r rest → IsSum depth tokens (operation at op l r) rest

  pub data IsExpr : ℕ → List Token → Written → List Token → Type 0 where
    sum_alone : (depth : ℕ) (tokens rest : List Token) (w : Written) → IsSum depth tokens w rest → IsExpr depth tokens w rest
    compare : (depth at : ℕ) (op : Binary) (tokens more rest : List Token) (l r : Written) → is_of levels.Compare op ≡ true → IsSum depth tokens l (token at (Operator op) ∷ more) → IsSum depth more r rest → IsExpr depth tokens (operation at op l r) rest

  pub data AreExprs : ℕ → List Token → Operands → List Token → Type 0 where
    expr_alone : (depth : ℕ) (tokens rest : List Token) (w : Written) → IsExpr depth tokens w rest → AreExprs depth tokens (And Bare w) rest
    comma : (depth at : ℕ) (tokens more rest : List Token) (before : Operands) (w : Written) → AreExprs depth tokens before (token at Comma ∷ more) → IsExpr depth more w rest → AreExprs depth tokens (And before w) rest
