-- What follows the rules of the grammar is read so.
use Rattle.std.proofs.Common.{◌≡◌, ℕ, suc, ◌-◌, ◌≤◌, true, false, List, [], ◌∷◌, length, Ok, None, refl, ◌∙◌, arith}
use Rattle.text_model.specs.Grammar.{Reading, arguments, expr, factor, further, grouped, is_of, operator_at, row, written_of}
use Rattle.text_model.specs.GrammarRules.{IsFactor, number, handle, sign, brackets, call, IsTerm, factor_alone, times, IsSum, term_alone, plus, IsExpr, sum_alone, compare, AreExprs, expr_alone, comma, token}
use Rattle.text_model.specs.Written.{Written, Operands}
use Rattle.hive_model.specs.declared.expr.Binary.{Binary}
use Rattle.hive_model.specs.declared.expr.Binary.TheVariants.{Add, Sub, Mul, Div, Rem, Eq, Ne, Lt, Le, Gt, Ge}
use Rattle.text_model.specs.declared.token.Level.TheVariants.{Compare, Sum, Product}
use Rattle.text_model.specs.declared.token.Symbol.TheVariants.{Number, Name, Operator, Open, Close, Comma}
use Rattle.text_model.specs.declared.token.Token.{Token}
use Rattle.expr_text.proofs.Parsing.Readings.{row-begins, grouped-more, grouped-end, factor-begun, signed-read, bracketed-read, arguments-begin, further-more, further-end, named-leaf, written-end}
use Rattle.expr_text.proofs.Printing.ReadBack.{NotOpen, call-read}
use Rattle.expr_text.proofs.Parsing.Rows.{Ends, ends-open, ends-operator, row_alone, row_two, operator-other, operator-there}

-- nothing is read twice

mutual
  shorter_factor : (d : ℕ) (ts rest : List Token) (w : Written) → IsFactor d ts w rest → length rest ≤ length ts
  shorter_factor _ _ _ _ (number d at n rest) = omega arith
  shorter_factor _ _ _ _ (handle d at len rest) = omega arith
  shorter_factor _ _ _ _ (sign d at ts rest w p) = omega (arith, shorter_factor d ts rest w p)
  shorter_factor _ _ _ _ (brackets d at close ts rest w p) = omega (arith, shorter_expr d ts (token close Close ∷ rest) w p)
  shorter_factor _ _ _ _ (call d at len second close ts rest all p) = omega (arith, shorter_exprs d ts (token close Close ∷ rest) all p)

  shorter_term : (d : ℕ) (ts rest : List Token) (w : Written) → IsTerm d ts w rest → length rest ≤ length ts
  shorter_term _ _ _ _ (factor_alone d ts rest w p) = shorter_factor d ts rest w p
  shorter_term _ _ _ _ (times d at op ts more rest l r is p q) = omega (arith, shorter_term d ts (token at (Operator op) ∷ more) l p, shorter_factor d more rest r q)

  shorter_sum : (d : ℕ) (ts rest : List Token) (w : Written) → IsSum d ts w rest → length rest ≤ length ts
  shorter_sum _ _ _ _ (term_alone d ts rest w p) = shorter_term d ts rest w p
  shorter_sum _ _ _ _ (plus d at op ts more rest l r is p q) = omega (arith, shorter_sum d ts (token at (Operator op) ∷ more) l p, shorter_term d more rest r q)

  shorter_expr : (d : ℕ) (ts rest : List Token) (w : Written) → IsExpr d ts w rest → length rest ≤ length ts
  shorter_expr _ _ _ _ (sum_alone d ts rest w p) = shorter_sum d ts rest w p
  shorter_expr _ _ _ _ (compare d at op ts more rest l r is p q) = omega (arith, shorter_sum d ts (token at (Operator op) ∷ more) l p, shorter_sum d more rest r q)

  shorter_exprs : (d : ℕ) (ts rest : List Token) (all : Operands) → AreExprs d ts all rest → length rest ≤ length ts
  shorter_exprs _ _ _ _ (expr_alone d ts rest w p) = shorter_expr d ts rest w p
  shorter_exprs _ _ _ _ (comma d at ts more rest before w p q) = omega (arith, shorter_exprs d ts (token at Comma ∷ more) before p, shorter_expr d more rest w q)

-- an operator is of one level

sum_no_product : (op : Binary) → is_of Sum op ≡ true → is_of Product op ≡ false
sum_no_product Add h = refl
sum_no_product Sub h = refl
sum_no_product Mul h = absurd cc
sum_no_product Div h = absurd cc
sum_no_product Rem h = absurd cc
sum_no_product Eq h = refl
sum_no_product Ne h = refl
sum_no_product Lt h = refl
sum_no_product Le h = refl
sum_no_product Gt h = refl
sum_no_product Ge h = refl

compare_no_product : (op : Binary) → is_of Compare op ≡ true → is_of Product op ≡ false
compare_no_product Add h = refl
compare_no_product Sub h = refl
compare_no_product Mul h = absurd cc
compare_no_product Div h = absurd cc
compare_no_product Rem h = absurd cc
compare_no_product Eq h = refl
compare_no_product Ne h = refl
compare_no_product Lt h = refl
compare_no_product Le h = refl
compare_no_product Gt h = refl
compare_no_product Ge h = refl

compare_no_sum : (op : Binary) → is_of Compare op ≡ true → is_of Sum op ≡ false
compare_no_sum Add h = absurd cc
compare_no_sum Sub h = absurd cc
compare_no_sum Mul h = refl
compare_no_sum Div h = refl
compare_no_sum Rem h = refl
compare_no_sum Eq h = refl
compare_no_sum Ne h = refl
compare_no_sum Lt h = refl
compare_no_sum Le h = refl
compare_no_sum Gt h = refl
compare_no_sum Ge h = refl

-- a row that has been read so far: the whole goes on from here, with enough steps left
pub record GoesOn (whole : Reading) (go : ℕ → Reading) (rest : List Token) : Type 0 where
  pub steps : ℕ
  pub enough : length rest ≤ steps
  pub same : whole ≡ go steps

mutual
  pub read_factor : (stop d : ℕ) (ts rest : List Token) (w : Written) → IsFactor d ts w rest → NotOpen rest → factor stop d ts ≡ Ok (w, rest)
  read_factor stop _ _ _ _ (number d at n rest) follow = factor-begun stop d (token at (Number n) ∷ rest)
  read_factor stop _ _ _ _ (handle d at len rest) follow = factor-begun stop d (token at (Name len) ∷ rest)
      ∙ named-leaf stop _ at len rest follow
  read_factor stop _ _ _ _ (sign d at ts rest w p) follow =
      factor-begun stop (suc d) (token at (Operator Sub) ∷ ts)
      ∙ signed-read (factor stop d) at ts rest w (read_factor stop d ts rest w p follow)
  read_factor stop _ _ _ _ (brackets d at close ts rest w p) follow =
      factor-begun stop (suc d) (token at Open ∷ ts)
      ∙ bracketed-read stop (factor stop d) ts (token close Close ∷ rest) rest w (read_expr stop d ts (token close Close ∷ rest) w p tt) refl
  read_factor stop _ _ _ _ (call d at len second close ts rest all p) follow =
      let read = read_exprs stop d ts (token close Close ∷ rest) all p tt in
      call-read stop d at len second ts (token close Close ∷ rest) rest all (read.2 ∙ further-end (expr (factor stop d)) read.0 all (token close Close ∷ rest) refl) refl

  pub read_term : (stop d : ℕ) (ts rest : List Token) (w : Written) → IsTerm d ts w rest → NotOpen rest → GoesOn (row Product (factor stop d) ts) (λ n. grouped Product (factor stop d) n w rest) rest
  read_term stop _ _ _ _ (factor_alone d ts rest w p) follow =
      record { steps = length rest; enough = omega arith; same = row-begins Product (factor stop d) ts rest w (read_factor stop d ts rest w p follow) }
  read_term stop _ _ _ _ (times d at op ts more rest l r is p q) follow =
      let left = read_term stop d ts (token at (Operator op) ∷ more) l p refl in
      let right = read_factor stop d more rest r q follow in
      record {
        steps = left.steps - 1;
        enough = omega (arith, left.enough, shorter_factor d more rest r q);
        same = left.same
            ∙ grouped-more Product (factor stop d) left.steps (left.steps - 1) l r (token at (Operator op) ∷ more) more rest at op (omega (arith, left.enough)) (operator-there Product at op more is) right;
      }

  pub read_sum : (stop d : ℕ) (ts rest : List Token) (w : Written) → IsSum d ts w rest → NotOpen rest → operator_at Product rest ≡ None → GoesOn (row Sum (row Product (factor stop d)) ts) (λ n. grouped Sum (row Product (factor stop d)) n w rest) rest
  read_sum stop _ _ _ _ (term_alone d ts rest w p) follow none =
      let read = read_term stop d ts rest w p follow in
      record { steps = length rest; enough = omega arith; same = row-begins Sum (row Product (factor stop d)) ts rest w (read.same ∙ grouped-end Product (factor stop d) read.steps w rest none) }
  read_sum stop _ _ _ _ (plus d at op ts more rest l r is p q) follow none =
      let left = read_sum stop d ts (token at (Operator op) ∷ more) l p refl (operator-other Product at op more (sum_no_product op is)) in
      let right = read_term stop d more rest r q follow in
      record {
        steps = left.steps - 1;
        enough = omega (arith, left.enough, shorter_term d more rest r q);
        same = left.same
            ∙ grouped-more Sum (row Product (factor stop d)) left.steps (left.steps - 1) l r (token at (Operator op) ∷ more) more rest at op (omega (arith, left.enough)) (operator-there Sum at op more is)
            (right.same ∙ grouped-end Product (factor stop d) right.steps r rest none);
      }

  pub read_expr : (stop d : ℕ) (ts rest : List Token) (w : Written) → IsExpr d ts w rest → Ends rest → expr (factor stop d) ts ≡ Ok (w, rest)
  read_expr stop _ _ _ _ (sum_alone d ts rest w p) ends =
      let read = read_sum stop d ts rest w p (ends-open rest ends) (ends-operator Product rest ends) in
      row_alone Compare (row Sum (row Product (factor stop d))) ts rest w (read.same ∙ grouped-end Sum (row Product (factor stop d)) read.steps w rest (ends-operator Sum rest ends)) (ends-operator Compare rest ends)
  read_expr stop _ _ _ _ (compare d at op ts more rest l r is p q) ends =
      let f = row Product (factor stop d) in
      let left = read_sum stop d ts (token at (Operator op) ∷ more) l p refl (operator-other Product at op more (compare_no_product op is)) in
      let right = read_sum stop d more rest r q (ends-open rest ends) (ends-operator Product rest ends) in
      row_two Compare (row Sum f) ts more rest at op l r
      (left.same ∙ grouped-end Sum f left.steps l (token at (Operator op) ∷ more) (operator-other Sum at op more (compare_no_sum op is))) is
      (right.same ∙ grouped-end Sum f right.steps r rest (ends-operator Sum rest ends)) (ends-operator Compare rest ends)

  pub read_exprs : (stop d : ℕ) (ts rest : List Token) (all : Operands) → AreExprs d ts all rest → Ends rest → (n : ℕ) × (length rest ≤ n) × (arguments (expr (factor stop d)) ts ≡ further (expr (factor stop d)) n all rest)
  read_exprs stop _ _ _ _ (expr_alone d ts rest w p) ends =
      (length rest, omega arith, arguments-begin (expr (factor stop d)) ts rest w (read_expr stop d ts rest w p ends))
  read_exprs stop _ _ _ _ (comma d at ts more rest before w p q) ends =
      let first = read_exprs stop d ts (token at Comma ∷ more) before p tt in
      let last = read_expr stop d more rest w q ends in (
        first.0 - 1,
        omega (arith, first.1, shorter_expr d more rest w q),
        first.2
            ∙ further-more (expr (factor stop d)) first.0 (first.0 - 1) before w (token at Comma ∷ more) more rest (omega (arith, first.1)) refl last,
      )

-- a text of the grammar is read as what it is
pub rules-read : (stop d : ℕ) (ts : List Token) (w : Written) → IsExpr d ts w [] → written_of stop d ts ≡ Ok w
rules-read stop d ts w p = written-end stop d ts [] w (read_expr stop d ts [] w p tt) refl
