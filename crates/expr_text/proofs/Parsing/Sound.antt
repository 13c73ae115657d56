-- What is read follows the rules of the grammar.
use Rattle.std.proofs.Common.{◌≡◌, ℕ, zero, suc, Bool, true, false, List, [], ◌∷◌, length, Option, Result, Ok, Err, Some, None, refl, sym, ap, ◌∙◌, subst}
use Rattle.text_model.specs.Grammar.{Reading, arguments, begun_by, behind, behind_close, bracketed, called, expr, factor, further, grouped, if_end, is_close, is_comma, is_of, is_open, most, named, operation, operator_at, place_at, row, signed, written_of}
use Rattle.text_model.specs.GrammarRules.{IsFactor, number, handle, sign, brackets, call, IsTerm, factor_alone, times, IsSum, term_alone, plus, IsExpr, sum_alone, compare, AreExprs, expr_alone, comma, token}
use Rattle.text_model.specs.Steps.{◌>>=◌, or_refuse}
use Rattle.text_model.specs.Written.{Written, Operands, Over, Bare, And}
use Rattle.hive_model.specs.declared.expr.Binary.{Binary}
use Rattle.hive_model.specs.declared.expr.Binary.TheVariants.{Add, Sub, Mul, Div, Rem, Eq, Ne, Lt, Le, Gt, Ge}
use Rattle.text_model.specs.declared.expr_refusal.ExprRefusal.{ExprRefusal}
use Rattle.text_model.specs.declared.expr_refusal.ExprRefusal.TheVariants.{Unexpected}
use Rattle.text_model.specs.declared.token.Form.TheVariants as forms
use Rattle.text_model.specs.declared.token.Level.{Level}
use Rattle.text_model.specs.declared.token.Level.TheVariants.{Compare, Sum, Product}
use Rattle.text_model.specs.declared.token.Symbol.{Symbol}
use Rattle.text_model.specs.declared.token.Symbol.TheVariants.{Number, Name, Operator, Open, Close, Comma}
use Rattle.text_model.specs.declared.token.Token.{Token}
use Rattle.expr_text.proofs.Building.Assembling.{bind_ok}

-- two readings that are one

pair_same : (x : Written × List Token) (w : Written) (rest : List Token) → ◌≡◌ {A = Reading} (Ok x) (Ok (w, rest)) →
    (x.0 ≡ w) × (x.1 ≡ rest)
pair_same x w rest h = let same : ◌≡◌ {A = Written × List Token} x (w, rest) = cc in (ap (λ p. p.0) same, ap (λ p. p.1) same)

some_it : {A : Type 0} (x y : A) → Some x ≡ Some y → x ≡ y
some_it x y h = cc

none_it : {A : Type 0} (y : A) → ◌≡◌ {A = Option A} None (Some y) → ⊥
none_it y h = cc

pub operator-nothing : (level : Level) → operator_at level [] ≡ None
unfolding operator_at
operator-nothing level = refl

-- what the tokens begin with

pub record BeginsWith (level : Level) (tokens : List Token) (it : ℕ × Binary × List Token) : Type 0 where
  pub tokens_are : tokens ≡ token it.0 (Operator it.1) ∷ it.2
  pub is : is_of level it.1 ≡ true

begins_by : (level : Level) (at : ℕ) (s : Symbol) (rest : List Token) (it : ℕ × Binary × List Token) →
    operator_at level (token at s ∷ rest) ≡ Some it → BeginsWith level (token at s ∷ rest) it
unfolding operator_at
begins_by level at (Number n) rest it h = absurd cc
begins_by level at (Name n) rest it h = absurd cc
begins_by level at Open rest it h = absurd cc
begins_by level at Close rest it h = absurd cc
begins_by level at Comma rest it h = absurd cc
begins_by level at (Operator op) rest it h = begins_is (is_of level op) refl h
  where
    begins_is : (b : Bool) → is_of level op ≡ b → operator_at level (token at (Operator op) ∷ rest) ≡ Some it → BeginsWith level (token at (Operator op) ∷ rest) it
    begins_is true e k =
        let same : ◌≡◌ {A = ℕ × Binary × List Token} (at, op, rest) it = some_it (at, op, rest) it (rw e at k) in
        subst (BeginsWith level (token at (Operator op) ∷ rest)) same (record { tokens_are = refl; is = e })
    begins_is false e k = absurd (none_it it (rw e at k))

pub begins : (level : Level) (tokens : List Token) (it : ℕ × Binary × List Token) → operator_at level tokens ≡ Some it →
    BeginsWith level tokens it
begins level [] it h = absurd (none_it it (sym (operator-nothing level) ∙ h))
begins level (t ∷ rest) it h = begins_by level t.at t.symbol rest it h

-- a row: each operator takes the next operand, and the left side so far has P

abbrev Step : Level → (List Token → Reading) → (Written → List Token → Type 0) → Type 0
Step level operand P =
    (at : ℕ) (op : Binary) (more rest : List Token) (l r : Written) → is_of level op ≡ true → P l (token at (Operator op) ∷ more) → operand more ≡ Ok (r, rest) → P (operation at op l r) rest

grouped_by : (level : Level) (operand : List Token → Reading) (P : Written → List Token → Type 0) → Step level operand P →
    (n : ℕ) (left : Written) (tokens : List Token) (w : Written) (rest : List Token) →
    ((l : Written) (ts : List Token) → P l ts → grouped level operand n l ts ≡ Ok (w, rest) → P w rest) →
    (o : Option (ℕ × Binary × List Token)) → operator_at level tokens ≡ o → P left tokens →
    grouped level operand (suc n) left tokens ≡ Ok (w, rest) → P w rest
unfolding grouped
grouped_by level operand P step n left tokens w rest again None e p h =
    let same = pair_same (left, tokens) w rest (rw e at h) in
    subst (λ v. P v rest) same.0 (subst (P left) same.1 p)
grouped_by level operand P step n left tokens w rest again (Some it) e p h =
    let b = begins level tokens it e in
    let found = bind_ok (operand it.2) (λ right. grouped level operand n (operation it.0 it.1 left right.0) right.1) (w, rest) (rw e at h) in
    again (operation it.0 it.1 left found.0.0) found.0.1 (step it.0 it.1 it.2 found.0.1 left found.0.0 b.is (subst (P left) b.tokens_are p) found.1) found.2

grouped_has : (level : Level) (operand : List Token → Reading) (P : Written → List Token → Type 0) → Step level operand P →
    (n : ℕ) (left : Written) (tokens : List Token) (w : Written) (rest : List Token) → P left tokens →
    grouped level operand n left tokens ≡ Ok (w, rest) → P w rest
unfolding grouped
grouped_has level operand P step zero left tokens w rest p h =
    let same = pair_same (left, tokens) w rest h in
    subst (λ v. P v rest) same.0 (subst (P left) same.1 p)
grouped_has level operand P step (suc n) left tokens w rest p h =
    grouped_by level operand P step n left tokens w rest (λ l ts q k. grouped_has level operand P step n l ts w rest q k) (operator_at level tokens) refl p h

-- rows, over factors that follow the rules

abbrev Follows : ℕ → (List Token → Reading) → Type 0
Follows d f = (ts rest : List Token) (w : Written) → f ts ≡ Ok (w, rest) → IsFactor d ts w rest

term_in : (d : ℕ) (f : List Token → Reading) → Follows d f → (ts rest : List Token) (w : Written) →
    row Product f ts ≡ Ok (w, rest) → IsTerm d ts w rest
unfolding row
term_in d f follows ts rest w h =
    let x = bind_ok (f ts) (λ left. grouped Product f (most Product left.1) left.0 left.1) (w, rest) h in
    grouped_has Product f (IsTerm d ts) (λ at op more rest l r is p q. times d at op ts more rest l r is p (follows more rest r q)) (most Product x.0.1) x.0.0 x.0.1 w rest
    (factor_alone d ts x.0.1 x.0.0 (follows ts x.0.1 x.0.0 x.1)) x.2

sum_in : (d : ℕ) (f : List Token → Reading) → Follows d f → (ts rest : List Token) (w : Written) →
    row Sum (row Product f) ts ≡ Ok (w, rest) → IsSum d ts w rest
unfolding row
sum_in d f follows ts rest w h =
    let x = bind_ok (row Product f ts) (λ left. grouped Sum (row Product f) (most Sum left.1) left.0 left.1) (w, rest) h in
    grouped_has Sum (row Product f) (IsSum d ts) (λ at op more rest l r is p q. plus d at op ts more rest l r is p (term_in d f follows more rest r q)) (most Sum x.0.1) x.0.0 x.0.1 w rest
    (term_alone d ts x.0.1 x.0.0 (term_in d f follows ts x.0.1 x.0.0 x.1)) x.2

compare_by : (d : ℕ) (f : List Token → Reading) → Follows d f →
    (ts tokens rest : List Token) (left w : Written) (o : Option (ℕ × Binary × List Token)) → operator_at Compare tokens ≡ o →
    IsSum d ts left tokens → grouped Compare (row Sum (row Product f)) (suc zero) left tokens ≡ Ok (w, rest) → IsExpr d ts w rest
unfolding grouped
compare_by d f follows ts tokens rest left w None e p h =
    let same = pair_same (left, tokens) w rest (rw e at h) in
    subst (λ v. IsExpr d ts v rest) same.0 (subst (IsExpr d ts left) same.1 (sum_alone d ts tokens left p))
compare_by d f follows ts tokens rest left w (Some it) e p h =
    let b = begins Compare tokens it e in
    let found = bind_ok (row Sum (row Product f) it.2) (λ right. grouped Compare (row Sum (row Product f)) zero (operation it.0 it.1 left right.0) right.1) (w, rest) (rw e at h) in
    let same = pair_same (operation it.0 it.1 left found.0.0, found.0.1) w rest found.2 in
    let is = compare d it.0 it.1 ts it.2 found.0.1 left found.0.0 b.is (subst (IsSum d ts left) b.tokens_are p) (sum_in d f follows it.2 found.0.1 found.0.0 found.1) in
    subst (λ v. IsExpr d ts v rest) same.0 (subst (IsExpr d ts (operation it.0 it.1 left found.0.0)) same.1 is)

expr_in : (d : ℕ) (f : List Token → Reading) → Follows d f → (ts rest : List Token) (w : Written) → expr f ts ≡ Ok (w, rest) →
    IsExpr d ts w rest
unfolding row
expr_in d f follows ts rest w h =
    let x = bind_ok (row Sum (row Product f) ts) (λ left. grouped Compare (row Sum (row Product f)) (most Compare left.1) left.0 left.1) (w, rest) h in
    compare_by d f follows ts x.0.1 rest x.0.0 w (operator_at Compare x.0.1) refl (sum_in d f follows ts x.0.1 x.0.0 x.1) x.2

-- brackets and commas

pub record Behind (s : Symbol) (tokens rest : List Token) : Type 0 where
  pub place : ℕ
  pub tokens_are : tokens ≡ token place s ∷ rest

pub comma_only : (r : Symbol) → is_comma r ≡ true → r ≡ Comma
comma_only (Number n) h = absurd cc
comma_only (Name n) h = absurd cc
comma_only (Operator op) h = absurd cc
comma_only Open h = absurd cc
comma_only Close h = absurd cc
comma_only Comma h = refl

close_only : (r : Symbol) → is_close r ≡ true → r ≡ Close
close_only (Number n) h = absurd cc
close_only (Name n) h = absurd cc
close_only (Operator op) h = absurd cc
close_only Open h = absurd cc
close_only Close h = refl
close_only Comma h = absurd cc

pub open_only : (r : Symbol) → is_open r ≡ true → r ≡ Open
open_only (Number n) h = absurd cc
open_only (Name n) h = absurd cc
open_only (Operator op) h = absurd cc
open_only Open h = refl
open_only Close h = absurd cc
open_only Comma h = absurd cc

behind_first : (test : Symbol → Bool) (s : Symbol) (t : Token) (more rest : List Token) (b : Bool) →
    ((r : Symbol) → test r ≡ true → r ≡ s) → test t.symbol ≡ b → behind test (t ∷ more) ≡ Some rest → Behind s (t ∷ more) rest
behind_first test s t more rest true only e h =
    let same : more ≡ rest = some_it more rest (rw e at h) in
    record { place = t.at; tokens_are = ap (λ r. token t.at r ∷ more) (only t.symbol e) ∙ ap (λ xs. token t.at s ∷ xs) same }
behind_first test s t more rest false only e h = absurd (none_it rest (rw e at h))

pub behind_is : (test : Symbol → Bool) (s : Symbol) (tokens rest : List Token) → ((r : Symbol) → test r ≡ true → r ≡ s) →
    behind test tokens ≡ Some rest → Behind s tokens rest
behind_is test s [] rest only h = absurd (none_it rest h)
behind_is test s (t ∷ more) rest only h = behind_first test s t more rest (test t.symbol) only refl h

closed : (stop : ℕ) (tokens rest : List Token) → behind_close stop tokens ≡ Ok rest → Behind Close tokens rest
closed stop tokens rest h = closed_by (behind is_close tokens) refl h
  where
    closed_by : (o : Option (List Token)) → behind is_close tokens ≡ o → or_refuse (Unexpected (place_at stop tokens)) o ≡ Ok rest → Behind Close tokens rest
    closed_by (Some r) e k = let same : r ≡ rest = cc in behind_is is_close Close tokens rest close_only (e ∙ ap Some same)
    closed_by None e k = absurd cc

-- operands of a function

all_same : (x : Operands × List Token) (all : Operands) (rest : List Token) →
    ◌≡◌ {A = Result (Operands × List Token) ExprRefusal} (Ok x) (Ok (all, rest)) → (x.0 ≡ all) × (x.1 ≡ rest)
all_same x all rest h = let same : ◌≡◌ {A = Operands × List Token} x (all, rest) = cc in (ap (λ p. p.0) same, ap (λ p. p.1) same)

further_by : (d : ℕ) (f : List Token → Reading) → Follows d f →
    (ts : List Token) (n : ℕ) (before : Operands) (tokens : List Token) (all : Operands) (rest : List Token) →
    ((b : Operands) (xs : List Token) → AreExprs d ts b xs → further (expr f) n b xs ≡ Ok (all, rest) → AreExprs d ts all rest) →
    (o : Option (List Token)) → behind is_comma tokens ≡ o → AreExprs d ts before tokens →
    further (expr f) (suc n) before tokens ≡ Ok (all, rest) → AreExprs d ts all rest
unfolding further
further_by d f follows ts n before tokens all rest again None e p h =
    let same = all_same (before, tokens) all rest (rw e at h) in
    subst (λ v. AreExprs d ts v rest) same.0 (subst (AreExprs d ts before) same.1 p)
further_by d f follows ts n before tokens all rest again (Some next) e p h =
    let found = bind_ok (expr f next) (λ it. further (expr f) n (And before it.0) it.1) (all, rest) (rw e at h) in
    let b = behind_is is_comma Comma tokens next comma_only e in
    again (And before found.0.0) found.0.1
    (comma d b.place ts next found.0.1 before found.0.0 (subst (AreExprs d ts before) b.tokens_are p) (expr_in d f follows next found.0.1 found.0.0 found.1)) found.2

further_in : (d : ℕ) (f : List Token → Reading) → Follows d f →
    (ts : List Token) (n : ℕ) (before : Operands) (tokens : List Token) (all : Operands) (rest : List Token) →
    AreExprs d ts before tokens → further (expr f) n before tokens ≡ Ok (all, rest) → AreExprs d ts all rest
unfolding further
further_in d f follows ts zero before tokens all rest p h =
    let same = all_same (before, tokens) all rest h in
    subst (λ v. AreExprs d ts v rest) same.0 (subst (AreExprs d ts before) same.1 p)
further_in d f follows ts (suc n) before tokens all rest p h =
    further_by d f follows ts n before tokens all rest (λ b xs q k. further_in d f follows ts n b xs all rest q k) (behind is_comma tokens) refl p h

exprs_in : (d : ℕ) (f : List Token → Reading) → Follows d f → (ts rest : List Token) (all : Operands) →
    arguments (expr f) ts ≡ Ok (all, rest) → AreExprs d ts all rest
unfolding arguments
exprs_in d f follows ts rest all h =
    let x = bind_ok (expr f ts) (λ it. further (expr f) (length it.1) (And Bare it.0) it.1) (all, rest) h in
    further_in d f follows ts (length x.0.1) (And Bare x.0.0) x.0.1 all rest (expr_alone d ts x.0.1 x.0.0 (expr_in d f follows ts x.0.1 x.0.0 x.1)) x.2

-- factors

-- what was read is carried over to what the reading says
carried : (d : ℕ) (ts : List Token) (x : Written × List Token) (w : Written) (rest : List Token) → IsFactor d ts x.0 x.1 →
    ◌≡◌ {A = Reading} (Ok x) (Ok (w, rest)) → IsFactor d ts w rest
carried d ts x w rest p h =
    let same = pair_same x w rest h in
    subst (λ v. IsFactor d ts v rest) same.0 (subst (IsFactor d ts x.0) same.1 p)

call_in : (stop d at len : ℕ) (f : List Token → Reading) → Follows d f → (more inside rest : List Token) (w : Written) →
    behind is_open more ≡ Some inside → called stop f at len inside ≡ Ok (w, rest) →
    IsFactor (suc d) (token at (Name len) ∷ more) w rest
unfolding called
call_in stop d at len f follows more inside rest w o h =
    let args = bind_ok (arguments (expr f) inside) (λ all. behind_close stop all.1 >>= λ r. Ok (Over at (forms.Call len) all.0, r)) (w, rest) h in
    let end = bind_ok (behind_close stop args.0.1) (λ r. Ok (Over at (forms.Call len) args.0.0, r)) (w, rest) args.2 in
    let open_at = behind_is is_open Open more inside open_only o in
    let close_at = closed stop args.0.1 end.0 end.1 in
    let are = subst (AreExprs d inside args.0.0) close_at.tokens_are (exprs_in d f follows inside args.0.1 args.0.0 args.1) in
    let is = carried (suc d) (token at (Name len) ∷ token open_at.place Open ∷ inside) (Over at (forms.Call len) args.0.0, end.0) w rest (call d at len open_at.place close_at.place inside end.0 args.0.0 are) end.2 in
    subst (λ xs. IsFactor (suc d) (token at (Name len) ∷ xs) w rest) (sym open_at.tokens_are) is

name_in : (stop d at len : ℕ) (f : List Token → Reading) → Follows d f →
    (more rest : List Token) (w : Written) (o : Option (List Token)) → behind is_open more ≡ o →
    named stop (Some f) at len more ≡ Ok (w, rest) → IsFactor (suc d) (token at (Name len) ∷ more) w rest
unfolding named
name_in stop d at len f follows more rest w None e h =
    carried (suc d) _ (Over at (forms.Name len) Bare, more) w rest (handle (suc d) at len more) (rw e at h)
name_in stop d at len f follows more rest w (Some inside) e h = call_in stop d at len f follows more inside rest w e (rw e at h)

name_at_end : (stop at len : ℕ) (more rest : List Token) (w : Written) (o : Option (List Token)) → behind is_open more ≡ o →
    named stop None at len more ≡ Ok (w, rest) → IsFactor zero (token at (Name len) ∷ more) w rest
unfolding named
name_at_end stop at len more rest w None e h =
    carried zero _ (Over at (forms.Name len) Bare, more) w rest (handle zero at len more) (rw e at h)
name_at_end stop at len more rest w (Some inside) e h = absurd (refused (rw e at h))
  where
    refused : {r : ExprRefusal} → ◌≡◌ {A = Reading} (Err r) (Ok (w, rest)) → ⊥
    refused k = cc

sign_in : (d at : ℕ) (f : List Token → Reading) → Follows d f → (more rest : List Token) (w : Written) →
    signed f at more ≡ Ok (w, rest) → IsFactor (suc d) (token at (Operator Sub) ∷ more) w rest
unfolding signed
sign_in d at f follows more rest w h =
    let x = bind_ok (f more) (λ it. Ok (Over at forms.Sign (And Bare it.0), it.1)) (w, rest) h in
    carried (suc d) _ (Over at forms.Sign (And Bare x.0.0), x.0.1) w rest (sign d at more x.0.1 x.0.0 (follows more x.0.1 x.0.0 x.1)) x.2

brackets_in : (stop d at : ℕ) (f : List Token → Reading) → Follows d f → (more rest : List Token) (w : Written) →
    bracketed stop f more ≡ Ok (w, rest) → IsFactor (suc d) (token at Open ∷ more) w rest
unfolding bracketed
brackets_in stop d at f follows more rest w h =
    let x = bind_ok (expr f more) (λ it. behind_close stop it.1 >>= λ r. Ok (it.0, r)) (w, rest) h in
    let end = bind_ok (behind_close stop x.0.1) (λ r. Ok (x.0.0, r)) (w, rest) x.2 in
    let close_at = closed stop x.0.1 end.0 end.1 in
    let is = subst (IsExpr d more x.0.0) close_at.tokens_are (expr_in d f follows more x.0.1 x.0.0 x.1) in
    carried (suc d) _ (x.0.0, end.0) w rest (brackets d at close_at.place more end.0 x.0.0 is) end.2

operator_in : (stop d at : ℕ) (f : List Token → Reading) → Follows d f → (op : Binary) (more rest : List Token) (w : Written) →
    begun_by stop (Some f) at (Operator op) more ≡ Ok (w, rest) → IsFactor (suc d) (token at (Operator op) ∷ more) w rest
operator_in stop d at f follows Sub more rest w h = sign_in d at f follows more rest w h
operator_in stop d at f follows Add more rest w h = absurd cc
operator_in stop d at f follows Mul more rest w h = absurd cc
operator_in stop d at f follows Div more rest w h = absurd cc
operator_in stop d at f follows Rem more rest w h = absurd cc
operator_in stop d at f follows Eq more rest w h = absurd cc
operator_in stop d at f follows Ne more rest w h = absurd cc
operator_in stop d at f follows Lt more rest w h = absurd cc
operator_in stop d at f follows Le more rest w h = absurd cc
operator_in stop d at f follows Gt more rest w h = absurd cc
operator_in stop d at f follows Ge more rest w h = absurd cc

operator_at_end : (stop at : ℕ) (op : Binary) (more rest : List Token) (w : Written) →
    begun_by stop None at (Operator op) more ≡ Ok (w, rest) → ⊥
operator_at_end stop at Sub more rest w h = cc
operator_at_end stop at Add more rest w h = cc
operator_at_end stop at Mul more rest w h = cc
operator_at_end stop at Div more rest w h = cc
operator_at_end stop at Rem more rest w h = cc
operator_at_end stop at Eq more rest w h = cc
operator_at_end stop at Ne more rest w h = cc
operator_at_end stop at Lt more rest w h = cc
operator_at_end stop at Le more rest w h = cc
operator_at_end stop at Gt more rest w h = cc
operator_at_end stop at Ge more rest w h = cc

symbol_in : (stop d at : ℕ) (f : List Token → Reading) → Follows d f → (s : Symbol) (more rest : List Token) (w : Written) →
    begun_by stop (Some f) at s more ≡ Ok (w, rest) → IsFactor (suc d) (token at s ∷ more) w rest
symbol_in stop d at f follows (Number n) more rest w h =
    carried (suc d) _ (Over at (forms.Number n) Bare, more) w rest (number (suc d) at n more) h
symbol_in stop d at f follows (Name len) more rest w h = name_in stop d at len f follows more rest w (behind is_open more) refl h
symbol_in stop d at f follows (Operator op) more rest w h = operator_in stop d at f follows op more rest w h
symbol_in stop d at f follows Open more rest w h = brackets_in stop d at f follows more rest w h
symbol_in stop d at f follows Close more rest w h = absurd cc
symbol_in stop d at f follows Comma more rest w h = absurd cc

symbol_at_end : (stop at : ℕ) (s : Symbol) (more rest : List Token) (w : Written) → begun_by stop None at s more ≡ Ok (w, rest) →
    IsFactor zero (token at s ∷ more) w rest
symbol_at_end stop at (Number n) more rest w h =
    carried zero _ (Over at (forms.Number n) Bare, more) w rest (number zero at n more) h
symbol_at_end stop at (Name len) more rest w h = name_at_end stop at len more rest w (behind is_open more) refl h
symbol_at_end stop at (Operator op) more rest w h = absurd (operator_at_end stop at op more rest w h)
symbol_at_end stop at Open more rest w h = absurd cc
symbol_at_end stop at Close more rest w h = absurd cc
symbol_at_end stop at Comma more rest w h = absurd cc

factor_in : (stop d : ℕ) (ts rest : List Token) (w : Written) → factor stop d ts ≡ Ok (w, rest) → IsFactor d ts w rest
unfolding factor
factor_in stop zero [] rest w h = absurd cc
factor_in stop zero (t ∷ more) rest w h = symbol_at_end stop t.at t.symbol more rest w h
factor_in stop (suc d) [] rest w h = absurd cc
factor_in stop (suc d) (t ∷ more) rest w h =
    symbol_in stop d t.at (factor stop d) (λ ts r v k. factor_in stop d ts r v k) t.symbol more rest w h

end_only : (w v : Written) (rest : List Token) → if_end w rest ≡ Ok v → (w ≡ v) × (rest ≡ [])
end_only w v [] h = (ok_same w v h, refl)
  where
    ok_same : (x y : Written) → ◌≡◌ {A = Result Written ExprRefusal} (Ok x) (Ok y) → x ≡ y
    ok_same x y k = cc
end_only w v (t ∷ rest) h = absurd cc

-- what is read from a whole text follows the rules
pub read-rules : (stop d : ℕ) (ts : List Token) (w : Written) → written_of stop d ts ≡ Ok w → IsExpr d ts w []
unfolding written_of
read-rules stop d ts w h =
    let x = bind_ok (expr (factor stop d) ts) (λ it. if_end it.0 it.1) w h in
    let end = end_only x.0.0 w x.0.1 x.2 in
    subst (λ v. IsExpr d ts v []) end.0 (subst (IsExpr d ts x.0.0) end.1 (expr_in d (factor stop d) (factor_in stop d) ts x.0.1 x.0.0 x.1))
