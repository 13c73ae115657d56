-- Where tokens stop being those of an expression, by the rules of the grammar alone: at the first one with which no expression
-- goes on, whatever stands behind it.
use Rattle.std.specs.Prelude.{◌≡◌, ℕ, suc, List, [], ◌∷◌, ◌++◌}
use Rattle.text_model.specs.GrammarRules.{IsExpr}
use Rattle.text_model.specs.Written.{Written}
use Rattle.hive_model.specs.declared.expr.Binary.TheVariants.{Sub}
use Rattle.text_model.specs.declared.expr_refusal.ExprRefusal.{ExprRefusal}
use Rattle.text_model.specs.declared.expr_refusal.ExprRefusal.TheVariants.{Unexpected, TooDeep}
use Rattle.text_model.specs.declared.token.Symbol.{Symbol}
use Rattle.text_model.specs.declared.token.Symbol.TheVariants.{Operator, Open}
use Rattle.text_model.specs.declared.token.Token.{Token}

-- some expression with at most `depth` brackets and signs open at once begins with the tokens
abbrev pub Begins : ℕ → List Token → Type 0
Begins depth tokens = (more : List Token) × (w : Written) × IsExpr depth (tokens ++ more) w []

-- some expression begins with the tokens before the one at `at`, and none with that one too
pub record StopsAt (depth : ℕ) (tokens : List Token) (at : ℕ) : Type 0 where
  pub front : List Token
  pub first : Token
  pub rest : List Token
  pub tokens_are : tokens ≡ front ++ first ∷ rest
  pub place : first.at ≡ at
  pub begins : Begins depth front
  pub ends : Begins depth (front ++ first ∷ []) → ⊥

-- the tokens stop at one with which no expression goes on, however many brackets and signs may be open
pub record IsUnexpectedAt (depth : ℕ) (tokens : List Token) (at : ℕ) : Type 0 where
  pub stops : StopsAt depth tokens at
  pub never : (any : ℕ) → Begins any (stops.front ++ stops.first ∷ []) → ⊥

-- a bracket or a sign
abbrev pub Opens : Symbol → Type 0
Opens Open = Unit {0}
Opens (Operator Sub) = Unit {0}
Opens symbol = ⊥

-- the tokens stop at a bracket or a sign with which some expression would go on, were one more open at once
pub record IsTooDeepAt (depth : ℕ) (tokens : List Token) (at : ℕ) : Type 0 where
  pub stops : StopsAt depth tokens at
  pub opens : Opens stops.first.symbol
  pub deeper : Begins (suc depth) (stops.front ++ stops.first ∷ [])

-- some expression begins with the tokens, and they are none themselves, however many brackets and signs may be open
pub record IsUnfinished (depth : ℕ) (tokens : List Token) : Type 0 where
  pub begins : Begins depth tokens
  pub never : (any : ℕ) (w : Written) → IsExpr any tokens w [] → ⊥

-- a refusal that the grammar gives
abbrev pub IsOfGrammar : ExprRefusal → Type 0
IsOfGrammar (Unexpected at) = Unit {0}
IsOfGrammar (TooDeep at) = Unit {0}
IsOfGrammar e = ⊥
