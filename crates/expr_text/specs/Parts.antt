-- Parts in a row, operands before what they are operands of.
use Rattle.std.specs.Prelude.{◌≡◌, ℕ, zero, suc, ◌+◌, List, [], ◌∷◌, ◌++◌, Option, Some, None, Result, Ok}
use Rattle.text_model.specs.Grammar.{Reading, factor}
use Rattle.text_model.specs.Written.{Written, Operands, Over, Bare, And}
use Rattle.text_model.specs.declared.expr_refusal.ExprRefusal.{ExprRefusal}
use Rattle.text_model.specs.declared.token.Form.{Form}
use Rattle.text_model.specs.declared.token.Token.{Token}
use Rattle.expr_text.specs.declared.grammar.Part.{Part}

abbrev pub count : Operands → ℕ
count Bare = 0
count (And before last) = count before + 1

abbrev pub part : ℕ → Form → ℕ → Part
part at form operands = record { at = at; form = form; operands = operands }

abbrev mutual
  pub postfix : Written → List Part
  postfix (Over at form operands) = postfix_all operands ++ part at form (count operands) ∷ []

  pub postfix_all : Operands → List Part
  postfix_all Bare = []
  postfix_all (And before last) = postfix_all before ++ postfix last

-- the parts of what was read stand behind those from before
abbrev pub HasRead : Reading → List Token → List Part → List Part → Type 0
HasRead reading rest old new = (w : Written) × (reading ≡ Ok (w, rest)) × (new ≡ old ++ postfix w)

abbrev pub HasReadAll : Result (Operands × List Token) ExprRefusal → ℕ → List Token → List Part → List Part → Type 0
HasReadAll reading n rest old new = (all : Operands) × (reading ≡ Ok (all, rest)) × (new ≡ old ++ postfix_all all) × (n ≡ count all)

abbrev pub HasWritten : Result Written ExprRefusal → List Part → Type 0
HasWritten reading parts = (w : Written) × (reading ≡ Ok w) × (parts ≡ postfix w)

-- how factors are read where one bracket or sign more is open
abbrev pub below : ℕ → ℕ → Option (List Token → Reading)
below stop zero = None
below stop (suc depth) = Some (factor stop depth)
