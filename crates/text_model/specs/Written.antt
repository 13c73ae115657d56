-- What is written in an expression's text: a tree of parts, each with the byte at which its sign, operator, name or literal stands.
-- Names aren't looked up yet, and a function has as many operands as are written.
use Rattle.std.specs.Prelude.{ℕ, ◌+◌}
use Rattle.text_model.specs.declared.token.Form.{Form}

mutual
  pub data Written : Type 0 where
    Over : (at : ℕ) → (form : Form) → (operands : Operands) → Written

  pub data Operands : Type 0 where
    Bare : Operands
    And : (before : Operands) → (last : Written) → Operands

abbrev mutual
  -- how many parts there are, which are the nodes
  pub size : Written → ℕ
  size (Over at form operands) = size_all operands + 1

  pub size_all : Operands → ℕ
  size_all Bare = 0
  size_all (And before last) = size_all before + size last

abbrev pub place_of : Written → ℕ
place_of (Over at form operands) = at
