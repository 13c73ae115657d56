-- Rows of operators are steady readings where their operands are.
use Rattle.std.proofs.Common.{◌≡◌, ℕ, zero, suc, ◌+◌, ◌≤◌, true, List, [], ◌∷◌, ◌++◌, length, Option, Ok, Some, None, refl, sym, ap, ◌∙◌, subst, arith}
use Rattle.std.specs.Option.{option_map_or}
use Rattle.text_model.specs.Grammar.{Reading, expr, grouped, is_of, operation, operator_at, operator_of, row}
use Rattle.text_model.specs.GrammarRules.{IsFactor, IsTerm, factor_alone, times, IsSum, term_alone, plus, IsExpr, sum_alone, compare}
use Rattle.text_model.specs.Steps.{◌>>=◌}
use Rattle.text_model.specs.Written.{Written}
use Rattle.hive_model.specs.declared.expr.Binary.{Binary}
use Rattle.text_model.specs.declared.token.Level.{Level}
use Rattle.text_model.specs.declared.token.Level.TheVariants.{Compare, Sum, Product}
use Rattle.text_model.specs.declared.token.Symbol.TheVariants.{Operator}
use Rattle.text_model.specs.declared.token.Token.{Token}
use Rattle.expr_text.proofs.Lexemes.Lexing.{token}
use Rattle.expr_text.proofs.Parsing.Sound.{begins, operator-nothing}
use Rattle.expr_text.proofs.Parsing.Readings.{grouped-end}
use Rattle.expr_text.proofs.Parsing.Rows.{operator-there}
use Rattle.expr_text.proofs.Lookahead.Steady.{Rules, again, Steady, Steadies, Lifts, Ready, in_turn, prefixed, untouched, bind_where, NoLonger, no_longer, length-left}

-- more steps than tokens make no difference

enough_by : (level : Level) (operand : List Token → Reading) → NoLonger operand → (n m : ℕ) (left : Written) (ts : List Token) →
    ((l : Written) (us : List Token) → length us ≤ n → length us ≤ m → grouped level operand n l us ≡ grouped level operand m l us) →
    (o : Option (ℕ × Binary × List Token)) → operator_at level ts ≡ o → length ts ≤ suc n → length ts ≤ suc m →
    grouped level operand (suc n) left ts ≡ grouped level operand (suc m) left ts
unfolding grouped
enough_by level operand shorter n m left ts go None e h k =
    grouped-end level operand (suc n) left ts e ∙ sym (grouped-end level operand (suc m) left ts e)
enough_by level operand shorter n m left ts go (Some it) e h k =
    let count = ap length (begins level ts it e).tokens_are in
    rw e (bind_where (operand it.2) _ _ (λ x r.
    let less = shorter it.2 x.1 x.0 r in
    go (operation it.0 it.1 left x.0) x.1 (omega (arith, count, less)) (omega (arith, count, less))))

enough : (level : Level) (operand : List Token → Reading) → NoLonger operand → (n m : ℕ) (left : Written) (ts : List Token) →
    length ts ≤ n → length ts ≤ m → grouped level operand n left ts ≡ grouped level operand m left ts
enough level operand shorter zero m left [] h k =
    grouped-end level operand zero left [] (operator-nothing level)
    ∙ sym (grouped-end level operand m left [] (operator-nothing level))
enough level operand shorter zero m left (t ∷ ts) h k = absurd (omega arith)
enough level operand shorter (suc n) zero left [] h k =
    grouped-end level operand (suc n) left [] (operator-nothing level)
    ∙ sym (grouped-end level operand zero left [] (operator-nothing level))
enough level operand shorter (suc n) zero left (t ∷ ts) h k = absurd (omega arith)
enough level operand shorter (suc n) (suc m) left ts h k =
    enough_by level operand shorter n m left ts (λ l us a b. enough level operand shorter n m l us a b) (operator_at level ts) refl h k

-- the further operands of a row, with steps for all tokens
abbrev going : Level → (List Token → Reading) → Written → List Token → Reading
going level operand left tokens = grouped level operand (length tokens) left tokens

going-step : (level : Level) (operand : List Token → Reading) → NoLonger operand → (left : Written) (at : ℕ) (op : Binary) →
    is_of level op ≡ true → (us : List Token) →
    going level operand left (token at (Operator op) ∷ us) ≡ (operand us >>= λ r. going level operand (operation at op left r.0) r.1)
unfolding grouped
going-step level operand shorter left at op is us =
    rw (operator-there level at op us is) (bind_where (operand us) _ _ (λ x r.
    enough level operand shorter (length us) (length x.1) (operation at op left x.0) x.1 (shorter us x.1 x.0 r) (omega arith)))

no_operator_by : (at : ℕ) (rest more : List Token) (o : Option Binary) →
    option_map_or {U = Option (ℕ × Binary × List Token)} (λ op. Some (at, op, rest)) o None ≡ None →
    option_map_or {U = Option (ℕ × Binary × List Token)} (λ op. Some (at, op, more)) o None ≡ None
no_operator_by at rest more (Some op) h = absurd cc
no_operator_by at rest more None h = refl

no_operator_again : (level : Level) (ts more : List Token) → operator_at level ts ≡ None →
    operator_at level (again ts more) ≡ None
unfolding operator_at
no_operator_again level [] more h = h
no_operator_again level (t ∷ rest) more h = no_operator_by t.at rest more (operator_of level t.symbol) h

-- an operator and its right operand make a whole of a left one
abbrev Joins : Level → (ℕ → Rules Written) → (ℕ → Rules Written) → (ℕ → Rules Written) → Type 0
Joins level lefts part is =
    (k at : ℕ) (op : Binary) (tokens more rest : List Token) (l r : Written) → is_of level op ≡ true → lefts k tokens l (token at (Operator op) ∷ more) → part k more r rest → is k tokens (operation at op l r) rest

joined : (level : Level) (lefts part is : ℕ → Rules Written) → Joins level lefts part is → (left : Written) → Ready lefts left →
    (at : ℕ) (op : Binary) → is_of level op ≡ true → Lifts part (λ k ts. is k (token at (Operator op) ∷ ts))
joined level lefts part is joins left ready at op of k front c = (
  c.0,
  operation at op left c.1,
  λ rest.
      let more = front ++ (c.0 ++ rest) in
      joins k at op (token at (Operator op) ∷ more) more rest left c.1 of (ready k (token at (Operator op) ∷ more)) (c.2 rest),
)

joined_ready : (level : Level) (lefts part is : ℕ → Rules Written) → Joins level lefts part is → (left : Written) →
    Ready lefts left → (at : ℕ) (op : Binary) → is_of level op ≡ true → (front : List Token) (r : Written) →
    Ready (λ k ts. part k (front ++ ts)) r →
    Ready (λ k ts. is k (token at (Operator op) ∷ (front ++ ts))) (operation at op left r)
joined_ready level lefts part is joins left ready at op of front r right k others =
    let more = front ++ others in
    joins k at op (token at (Operator op) ∷ more) more others left r of (ready k (token at (Operator op) ∷ more)) (right k others)

-- The induction on the number of tokens: what is given for fewer of them, under any rules.
abbrev GoesOn : ℕ → Level → (List Token → Reading) → (ℕ → Rules Written) → ℕ → Type 1
GoesOn stop level operand part n =
    (is : ℕ → Rules Written) (left : Written) (ts : List Token) → Joins level is part is → Ready is left → length ts + 1 ≤ n → Steady stop is (going level operand left) ts

going_by : (stop : ℕ) (level : Level) (operand : List Token → Reading) (part : ℕ → Rules Written) → Steadies stop part operand →
    (n : ℕ) → GoesOn stop level operand part n → (is : ℕ → Rules Written) (left : Written) (ts : List Token) →
    Joins level is part is → Ready is left → (o : Option (ℕ × Binary × List Token)) → operator_at level ts ≡ o → length ts ≤ n →
    Steady stop is (going level operand left) ts
going_by stop level operand part steady n go is left ts joins ready None e h =
    untouched stop is (going level operand left) left ts ready (grouped-end level operand (length ts) left ts e)
    (λ more. grouped-end level operand (length (again ts more)) left (again ts more) (no_operator_again level ts more e))
going_by stop level operand part steady n go is left ts joins ready (Some it) e h =
    let b = begins level ts it e in
    let t = token it.0 (Operator it.1) in
    let count = ap length b.tokens_are in
    subst (Steady stop is (going level operand left)) (sym b.tokens_are)
    (prefixed stop is (t ∷ []) (λ us. operand us >>= λ r. going level operand (operation it.0 it.1 left r.0) r.1) (going level operand left) it.2
    (going-step level operand (no_longer stop part operand steady) left it.0 it.1 b.is)
    (in_turn stop part (λ k us. is k (t ∷ us)) operand (λ r. going level operand (operation it.0 it.1 left r)) it.2
    (joined level is part is joins left ready it.0 it.1 b.is) (steady it.2)
    (λ r rest p.
    go (λ k us. is k (t ∷ (p.front ++ us))) (operation it.0 it.1 left r) rest (λ k at op us. joins k at op (t ∷ (p.front ++ us)))
    (joined_ready level is part is joins left ready it.0 it.1 b.is p.front r p.follows) (omega (arith, count, h, length-left it.2 p.front rest p.tokens_are)))))

going_steady : (stop : ℕ) (level : Level) (operand : List Token → Reading) (part : ℕ → Rules Written) →
    Steadies stop part operand → (n : ℕ) (is : ℕ → Rules Written) (left : Written) (ts : List Token) → Joins level is part is →
    Ready is left → length ts ≤ n → Steady stop is (going level operand left) ts
going_steady stop level operand part steady zero is left ts joins ready h =
    going_by stop level operand part steady zero (λ is' l us j r k. absurd (omega arith)) is left ts joins ready (operator_at level ts) refl h
going_steady stop level operand part steady (suc n) is left ts joins ready h =
    going_by stop level operand part steady (suc n) (λ is' l us j r k. going_steady stop level operand part steady n is' l us j r (omega arith)) is left ts joins ready (operator_at level ts) refl h

-- the three levels, with a number of brackets and signs for each number of further ones

term_steady : (stop : ℕ) (depth : ℕ → ℕ) (factor : List Token → Reading) → Steadies stop (λ k. IsFactor (depth k)) factor →
    Steadies stop (λ k. IsTerm (depth k)) (row Product factor)
unfolding row
term_steady stop depth factor steady ts =
    in_turn stop (λ k. IsFactor (depth k)) (λ k. IsTerm (depth k)) factor (going Product factor) ts
    (λ k front c. (c.0, c.1, λ rest. factor_alone (depth k) (front ++ (c.0 ++ rest)) rest c.1 (c.2 rest))) (steady ts)
    (λ x rest p.
    going_steady stop Product factor (λ k. IsFactor (depth k)) steady (length rest) (λ k us. IsTerm (depth k) (p.front ++ us)) x rest
    (λ k at op us more left l r of a b. times (depth k) at op (p.front ++ us) more left l r of a b)
    (λ k others. factor_alone (depth k) (p.front ++ others) others x (p.follows k others)) (omega arith))

sum_steady : (stop : ℕ) (depth : ℕ → ℕ) (term : List Token → Reading) → Steadies stop (λ k. IsTerm (depth k)) term →
    Steadies stop (λ k. IsSum (depth k)) (row Sum term)
unfolding row
sum_steady stop depth term steady ts =
    in_turn stop (λ k. IsTerm (depth k)) (λ k. IsSum (depth k)) term (going Sum term) ts
    (λ k front c. (c.0, c.1, λ rest. term_alone (depth k) (front ++ (c.0 ++ rest)) rest c.1 (c.2 rest))) (steady ts)
    (λ x rest p.
    going_steady stop Sum term (λ k. IsTerm (depth k)) steady (length rest) (λ k us. IsSum (depth k) (p.front ++ us)) x rest
    (λ k at op us more left l r of a b. plus (depth k) at op (p.front ++ us) more left l r of a b)
    (λ k others. term_alone (depth k) (p.front ++ others) others x (p.follows k others)) (omega arith))

-- at most one comparison
once-step : (sum : List Token → Reading) (left : Written) (at : ℕ) (op : Binary) → is_of Compare op ≡ true → (us : List Token) →
    grouped Compare sum 1 left (token at (Operator op) ∷ us) ≡ (sum us >>= λ r. Ok (operation at op left r.0, r.1))
unfolding grouped
once-step sum left at op of us = rw (operator-there Compare at op us of) refl

once_by : (stop : ℕ) (sum : List Token → Reading) (lefts part is : ℕ → Rules Written) → Steadies stop part sum →
    Joins Compare lefts part is → (left : Written) → Ready lefts left → Ready is left →
    (ts : List Token) (o : Option (ℕ × Binary × List Token)) → operator_at Compare ts ≡ o →
    Steady stop is (grouped Compare sum 1 left) ts
once_by stop sum lefts part is steady joins left ready alone ts None e =
    untouched stop is (grouped Compare sum 1 left) left ts alone (grouped-end Compare sum 1 left ts e)
    (λ more. grouped-end Compare sum 1 left (again ts more) (no_operator_again Compare ts more e))
once_by stop sum lefts part is steady joins left ready alone ts (Some it) e =
    let b = begins Compare ts it e in
    let t = token it.0 (Operator it.1) in
    subst (Steady stop is (grouped Compare sum 1 left)) (sym b.tokens_are)
    (prefixed stop is (t ∷ []) (λ us. sum us >>= λ r. Ok (operation it.0 it.1 left r.0, r.1)) (grouped Compare sum 1 left) it.2
    (once-step sum left it.0 it.1 b.is)
    (in_turn stop part (λ k us. is k (t ∷ us)) sum (λ r rest. Ok (operation it.0 it.1 left r, rest)) it.2
    (joined Compare lefts part is joins left ready it.0 it.1 b.is) (steady it.2)
    (λ r rest p.
    untouched stop (λ k us. is k (t ∷ (p.front ++ us))) (λ us. Ok (operation it.0 it.1 left r, us)) (operation it.0 it.1 left r) rest
    (joined_ready Compare lefts part is joins left ready it.0 it.1 b.is p.front r p.follows) refl (λ more. refl))))

compare_steady : (stop : ℕ) (depth : ℕ → ℕ) (sum : List Token → Reading) → Steadies stop (λ k. IsSum (depth k)) sum →
    Steadies stop (λ k. IsExpr (depth k)) (row Compare sum)
unfolding row
compare_steady stop depth sum steady ts =
    in_turn stop (λ k. IsSum (depth k)) (λ k. IsExpr (depth k)) sum (grouped Compare sum 1) ts
    (λ k front c. (c.0, c.1, λ rest. sum_alone (depth k) (front ++ (c.0 ++ rest)) rest c.1 (c.2 rest))) (steady ts)
    (λ x rest p.
    once_by stop sum (λ k us. IsSum (depth k) (p.front ++ us)) (λ k. IsSum (depth k)) (λ k us. IsExpr (depth k) (p.front ++ us)) steady
    (λ k at op us more left l r of a b. compare (depth k) at op (p.front ++ us) more left l r of a b) x p.follows
    (λ k others. sum_alone (depth k) (p.front ++ others) others x (p.follows k others)) rest (operator_at Compare rest) refl)

pub expr_steady : (stop : ℕ) (depth : ℕ → ℕ) (factor : List Token → Reading) → Steadies stop (λ k. IsFactor (depth k)) factor →
    Steadies stop (λ k. IsExpr (depth k)) (expr factor)
expr_steady stop depth factor steady =
    compare_steady stop depth (row Sum (row Product factor)) (sum_steady stop depth (row Product factor) (term_steady stop depth factor steady))
