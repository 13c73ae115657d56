-- Factors, operands of functions and whole expressions are steady readings.
use Rattle.std.proofs.Common.{◌≡◌, ℕ, zero, suc, ◌+◌, ◌≤◌, pos, Bool, true, false, List, [], ◌∷◌, ◌++◌, length, Option, Ok, Err, Some, None, refl, sym, ap, ◌∙◌, subst, arith}
use Rattle.std.proofs.lemmas.List.{append_assoc}
use Rattle.text_model.specs.Grammar.{Reading, arguments, begun, begun_by, behind, behind_close, bracketed, called, expr, factor, further, is_comma, is_open, named, place_at, signed}
use Rattle.text_model.specs.GrammarRules.{IsFactor, number, handle, sign, brackets, call, factor_alone, term_alone, IsExpr, sum_alone, AreExprs, expr_alone, comma}
use Rattle.text_model.specs.Steps.{◌>>=◌}
use Rattle.text_model.specs.Written.{Written, Operands, Over, Bare, And}
use Rattle.hive_model.specs.declared.expr.Binary.{Binary}
use Rattle.hive_model.specs.declared.expr.Binary.TheVariants.{Add, Sub, Mul, Div, Rem, Eq, Ne, Lt, Le, Gt, Ge}
use Rattle.text_model.specs.declared.expr_refusal.ExprRefusal.TheVariants.{Unexpected, TooDeep}
use Rattle.text_model.specs.declared.token.Form.TheVariants as forms
use Rattle.text_model.specs.declared.token.Symbol.{Symbol}
use Rattle.text_model.specs.declared.token.Symbol.TheVariants.{Number, Name, Operator, Open, Close, Comma}
use Rattle.text_model.specs.declared.token.Token.{Token}
use Rattle.expr_text.specs.Parts.{below}
use Rattle.expr_text.proofs.Lexemes.Lexing.{token}
use Rattle.expr_text.proofs.Parsing.Sound.{behind_is, comma_only, open_only}
use Rattle.expr_text.proofs.Parsing.Readings.{further-end, named-leaf}
use Rattle.expr_text.proofs.Lookahead.Steady.{Takes, Rules, again, Completes, Answers, Steady, Steadies, Ready, in_turn, prefixed, untouched, refused, bind_where, NoLonger, no_longer, length-left}
use Rattle.expr_text.proofs.Lookahead.SteadyRows.{expr_steady}

-- a value that is made of what was read
given : {A : Type 0} (stop : ℕ) (is : ℕ → Rules A) (x : A) (tokens : List Token) → Ready is x →
    Steady stop is (λ ts. Ok (x, ts)) tokens
given stop is x tokens ready = untouched stop is (λ ts. Ok (x, ts)) x tokens ready refl (λ more. refl)

-- what stands for a missing operand, and for a missing bracket

abbrev nought : Token
nought = token 0 (Number (pos 0))

abbrev nought_is : Written
nought_is = Over 0 (forms.Number (pos 0)) Bare

nought_expr : (depth : ℕ) (rest : List Token) → IsExpr depth (nought ∷ rest) nought_is rest
nought_expr depth rest =
    sum_alone depth (nought ∷ rest) rest nought_is (term_alone depth (nought ∷ rest) rest nought_is (factor_alone depth (nought ∷ rest) rest nought_is (number depth 0 (pos 0) rest)))

an_operand : (depth : ℕ → ℕ) (k : ℕ) → Completes (IsFactor (depth k)) []
an_operand depth k = (nought ∷ [], nought_is, λ rest. number (depth k) 0 (pos 0) rest)

abbrev shut : Token
shut = token 0 Close

shut_behind : (P : List Token → Type 0) (front more rest : List Token) → P (front ++ (more ++ shut ∷ rest)) →
    P (front ++ ((more ++ shut ∷ []) ++ rest))
shut_behind P front more rest p = subst (λ ts. P (front ++ ts)) (sym (append_assoc more (shut ∷ []) rest)) p

-- the closing bracket behind what was read

abbrev closing : {A : Type 0} → ℕ → A → Takes A
closing stop x tokens = behind_close stop tokens >>= λ rest. Ok (x, rest)

-- a closing bracket ends it
abbrev Closes : {A : Type 0} → (ℕ → Rules A) → A → Type 0
Closes is x = (k at : ℕ) (others : List Token) → is k (token at Close ∷ others) x others

unclosed : {A : Type 0} (stop : ℕ) (is : ℕ → Rules A) (x : A) (tokens : List Token) (at : ℕ) → Closes is x →
    behind_close stop tokens ≡ Err (Unexpected at) → place_at stop tokens ≡ at →
    ((more : List Token) → behind_close stop (again tokens more) ≡ Err (Unexpected at)) → Steady stop is (closing stop x) tokens
unclosed stop is x tokens at closes h place same =
    refused stop is (closing stop x) tokens (Unexpected at) (λ k. (shut ∷ [], x, λ rest. closes k 0 rest)) (λ deep k. absurd deep)
    (ap (λ r. r >>= λ rest. Ok (x, rest)) h) place (λ more. ap (λ r. r >>= λ rest. Ok (x, rest)) (same more))

closing_by : {A : Type 0} (stop : ℕ) (is : ℕ → Rules A) (x : A) → Closes is x → (at : ℕ) (s : Symbol) (rest : List Token) →
    Steady stop is (closing stop x) (token at s ∷ rest)
closing_by stop is x closes at Close rest =
    prefixed stop is (token at Close ∷ []) (λ ts. Ok (x, ts)) (closing stop x) rest (λ ts. refl) (given stop (λ k ts. is k (token at Close ∷ ts)) x rest (λ k others. closes k at others))
closing_by stop is x closes at (Number n) rest =
    unclosed stop is x (token at (Number n) ∷ rest) at closes refl refl (λ more. refl)
closing_by stop is x closes at (Name n) rest = unclosed stop is x (token at (Name n) ∷ rest) at closes refl refl (λ more. refl)
closing_by stop is x closes at (Operator op) rest =
    unclosed stop is x (token at (Operator op) ∷ rest) at closes refl refl (λ more. refl)
closing_by stop is x closes at Open rest = unclosed stop is x (token at Open ∷ rest) at closes refl refl (λ more. refl)
closing_by stop is x closes at Comma rest = unclosed stop is x (token at Comma ∷ rest) at closes refl refl (λ more. refl)

closing_steady : {A : Type 0} (stop : ℕ) (is : ℕ → Rules A) (x : A) → Closes is x → Steadies stop is (closing stop x)
closing_steady stop is x closes [] = unclosed stop is x [] stop closes refl refl (λ more. refl)
closing_steady stop is x closes (t ∷ rest) = closing_by stop is x closes t.at t.symbol rest

-- operands of a function

behind-again : (test : Symbol → Bool) (ts more : List Token) → behind test ts ≡ None → behind test (again ts more) ≡ None
behind-again test [] more h = refl
behind-again test (t ∷ rest) more h = by (test t.symbol) refl h
  where
    by : (b : Bool) → test t.symbol ≡ b → behind test (t ∷ rest) ≡ None → behind test (t ∷ more) ≡ None
    by true e k = let wrong : ◌≡◌ {A = Option (List Token)} (Some rest) None = rw e at k in absurd cc
    by false e k = rw e refl

-- more steps than tokens make no difference

enough_by : (next : List Token → Reading) → NoLonger next → (n m : ℕ) (before : Operands) (ts : List Token) →
    ((b : Operands) (us : List Token) → length us ≤ n → length us ≤ m → further next n b us ≡ further next m b us) →
    (o : Option (List Token)) → behind is_comma ts ≡ o → length ts ≤ suc n → length ts ≤ suc m →
    further next (suc n) before ts ≡ further next (suc m) before ts
unfolding further
enough_by next shorter n m before ts go None e h k =
    further-end next (suc n) before ts e ∙ sym (further-end next (suc m) before ts e)
enough_by next shorter n m before ts go (Some us) e h k =
    let count = ap length (behind_is is_comma Comma ts us comma_only e).tokens_are in
    rw e (bind_where (next us) _ _ (λ x r.
    let less = shorter us x.1 x.0 r in
    go (And before x.0) x.1 (omega (arith, count, less)) (omega (arith, count, less))))

enough : (next : List Token → Reading) → NoLonger next → (n m : ℕ) (before : Operands) (ts : List Token) → length ts ≤ n →
    length ts ≤ m → further next n before ts ≡ further next m before ts
enough next shorter zero m before [] h k = further-end next zero before [] refl ∙ sym (further-end next m before [] refl)
enough next shorter zero m before (t ∷ ts) h k = absurd (omega arith)
enough next shorter (suc n) zero before [] h k =
    further-end next (suc n) before [] refl ∙ sym (further-end next zero before [] refl)
enough next shorter (suc n) zero before (t ∷ ts) h k = absurd (omega arith)
enough next shorter (suc n) (suc m) before ts h k =
    enough_by next shorter n m before ts (λ b us i j. enough next shorter n m b us i j) (behind is_comma ts) refl h k

-- the further operands, with steps for all tokens
abbrev going : (List Token → Reading) → Operands → Takes Operands
going next before tokens = further next (length tokens) before tokens

going-step : (next : List Token → Reading) → NoLonger next → (before : Operands) (at : ℕ) (us : List Token) →
    going next before (token at Comma ∷ us) ≡ (next us >>= λ r. going next (And before r.0) r.1)
unfolding further
going-step next shorter before at us =
    bind_where (next us) _ _ (λ x r. enough next shorter (length us) (length x.1) (And before x.0) x.1 (shorter us x.1 x.0 r) (omega arith))

-- a comma and an operand behind it go on with those before
abbrev Adds : (ℕ → Rules Written) → (ℕ → Rules Operands) → Type 0
Adds part is =
    (k at : ℕ) (tokens more rest : List Token) (before : Operands) (w : Written) → is k tokens before (token at Comma ∷ more) → part k more w rest → is k tokens (And before w) rest

-- The induction on the number of tokens: what is given for fewer of them, under any rules.
abbrev GoesOn : ℕ → (List Token → Reading) → (ℕ → Rules Written) → ℕ → Type 1
GoesOn stop next part n =
    (is : ℕ → Rules Operands) (before : Operands) (ts : List Token) → Adds part is → Ready is before → length ts + 1 ≤ n → Steady stop is (going next before) ts

going_by : (stop : ℕ) (next : List Token → Reading) (part : ℕ → Rules Written) → Steadies stop part next → (n : ℕ) →
    GoesOn stop next part n → (is : ℕ → Rules Operands) (before : Operands) (ts : List Token) → Adds part is → Ready is before →
    (o : Option (List Token)) → behind is_comma ts ≡ o → length ts ≤ n → Steady stop is (going next before) ts
going_by stop next part steady n go is before ts adds ready None e h =
    untouched stop is (going next before) before ts ready (further-end next (length ts) before ts e)
    (λ more. further-end next (length (again ts more)) before (again ts more) (behind-again is_comma ts more e))
going_by stop next part steady n go is before ts adds ready (Some us) e h =
    let b = behind_is is_comma Comma ts us comma_only e in
    let t = token b.place Comma in
    let count = ap length b.tokens_are in
    subst (Steady stop is (going next before)) (sym b.tokens_are)
    (prefixed stop is (t ∷ []) (λ vs. next vs >>= λ r. going next (And before r.0) r.1) (going next before) us
    (going-step next (no_longer stop part next steady) before b.place)
    (in_turn stop part (λ k vs. is k (t ∷ vs)) next (λ r. going next (And before r)) us
    (λ k front c. (
      c.0,
      And before c.1,
      λ rest.
          let more = front ++ (c.0 ++ rest) in
          adds k b.place (t ∷ more) more rest before c.1 (ready k (t ∷ more)) (c.2 rest),
    ))
    (steady us)
    (λ r rest p.
    go (λ k vs. is k (t ∷ (p.front ++ vs))) (And before r) rest (λ k at vs. adds k at (t ∷ (p.front ++ vs)))
    (λ k others. adds k b.place (t ∷ (p.front ++ others)) (p.front ++ others) others before r (ready k (t ∷ (p.front ++ others))) (p.follows k others))
    (omega (arith, count, h, length-left us p.front rest p.tokens_are)))))

going_steady : (stop : ℕ) (next : List Token → Reading) (part : ℕ → Rules Written) → Steadies stop part next →
    (n : ℕ) (is : ℕ → Rules Operands) (before : Operands) (ts : List Token) → Adds part is → Ready is before → length ts ≤ n →
    Steady stop is (going next before) ts
going_steady stop next part steady zero is before ts adds ready h =
    going_by stop next part steady zero (λ is' b us j r k. absurd (omega arith)) is before ts adds ready (behind is_comma ts) refl h
going_steady stop next part steady (suc n) is before ts adds ready h =
    going_by stop next part steady (suc n) (λ is' b us j r k. going_steady stop next part steady n is' b us j r (omega arith)) is before ts adds ready (behind is_comma ts) refl h

arguments_steady : (stop : ℕ) (depth : ℕ → ℕ) (next : List Token → Reading) → Steadies stop (λ k. IsExpr (depth k)) next →
    Steadies stop (λ k. AreExprs (depth k)) (arguments next)
unfolding arguments
arguments_steady stop depth next steady ts =
    in_turn stop (λ k. IsExpr (depth k)) (λ k. AreExprs (depth k)) next (λ x. going next (And Bare x)) ts
    (λ k front c. (c.0, And Bare c.1, λ rest. expr_alone (depth k) (front ++ (c.0 ++ rest)) rest c.1 (c.2 rest))) (steady ts)
    (λ x rest p.
    going_steady stop next (λ k. IsExpr (depth k)) steady (length rest) (λ k us. AreExprs (depth k) (p.front ++ us)) (And Bare x) rest
    (λ k at us more left before w a b. comma (depth k) at (p.front ++ us) more left before w a b)
    (λ k others. expr_alone (depth k) (p.front ++ others) others x (p.follows k others)) (omega arith))

-- what stands behind a sign, a bracket, and a name with a bracket

signed_steady : (stop at : ℕ) (depth : ℕ → ℕ) (factor : List Token → Reading) → Steadies stop (λ k. IsFactor (depth k)) factor →
    Steadies stop (λ k ts. IsFactor (suc (depth k)) (token at (Operator Sub) ∷ ts)) (signed factor at)
unfolding signed
signed_steady stop at depth factor steady ts =
    in_turn stop (λ k. IsFactor (depth k)) (λ k us. IsFactor (suc (depth k)) (token at (Operator Sub) ∷ us)) factor (λ x rest. Ok (Over at forms.Sign (And Bare x), rest)) ts
    (λ k front c. (c.0, Over at forms.Sign (And Bare c.1), λ rest. sign (depth k) at (front ++ (c.0 ++ rest)) rest c.1 (c.2 rest))) (steady ts)
    (λ x rest p.
    given stop (λ k us. IsFactor (suc (depth k)) (token at (Operator Sub) ∷ (p.front ++ us))) (Over at forms.Sign (And Bare x)) rest
    (λ k others. sign (depth k) at (p.front ++ others) others x (p.follows k others)))

bracketed_steady : (stop at : ℕ) (depth : ℕ → ℕ) (factor : List Token → Reading) →
    Steadies stop (λ k. IsFactor (depth k)) factor →
    Steadies stop (λ k ts. IsFactor (suc (depth k)) (token at Open ∷ ts)) (bracketed stop factor)
unfolding bracketed
bracketed_steady stop at depth factor steady ts =
    in_turn stop (λ k. IsExpr (depth k)) (λ k us. IsFactor (suc (depth k)) (token at Open ∷ us)) (expr factor) (closing stop) ts
    (λ k front c. (
      c.0 ++ shut ∷ [],
      c.1,
      λ rest.
          shut_behind (λ us. IsFactor (suc (depth k)) (token at Open ∷ us) c.1 rest) front c.0 rest
          (brackets (depth k) at 0 (front ++ (c.0 ++ shut ∷ rest)) rest c.1 (c.2 (shut ∷ rest))),
    ))
    (expr_steady stop depth factor steady ts)
    (λ x rest p.
    closing_steady stop (λ k us. IsFactor (suc (depth k)) (token at Open ∷ (p.front ++ us))) x
    (λ k close others. brackets (depth k) at close (p.front ++ token close Close ∷ others) others x (p.follows k (token close Close ∷ others))) rest)

called_steady : (stop at len open_at : ℕ) (depth : ℕ → ℕ) (factor : List Token → Reading) →
    Steadies stop (λ k. IsFactor (depth k)) factor →
    Steadies stop (λ k ts. IsFactor (suc (depth k)) (token at (Name len) ∷ token open_at Open ∷ ts)) (called stop factor at len)
unfolding called
called_steady stop at len open_at depth factor steady ts =
    in_turn stop (λ k. AreExprs (depth k)) (λ k us. IsFactor (suc (depth k)) (token at (Name len) ∷ token open_at Open ∷ us)) (arguments (expr factor)) (λ all. closing stop (Over at (forms.Call len) all)) ts
    (λ k front c. (
      c.0 ++ shut ∷ [],
      Over at (forms.Call len) c.1,
      λ rest.
          shut_behind (λ us. IsFactor (suc (depth k)) (token at (Name len) ∷ token open_at Open ∷ us) (Over at (forms.Call len) c.1) rest) front c.0 rest
          (call (depth k) at len open_at 0 (front ++ (c.0 ++ shut ∷ rest)) rest c.1 (c.2 (shut ∷ rest))),
    ))
    (arguments_steady stop depth (expr factor) (expr_steady stop depth factor steady) ts)
    (λ all rest p.
    closing_steady stop (λ k us. IsFactor (suc (depth k)) (token at (Name len) ∷ token open_at Open ∷ (p.front ++ us))) (Over at (forms.Call len) all)
    (λ k close others. call (depth k) at len open_at close (p.front ++ token close Close ∷ others) others all (p.follows k (token close Close ∷ others))) rest)

-- factors

-- a depth with that many more brackets and signs
abbrev pub wider : ℕ → ℕ → ℕ
wider k zero = k
wider k (suc depth) = suc (wider k depth)

-- what is known of the readings behind a bracket or a sign
abbrev Inner : ℕ → ℕ → Type 0
Inner stop zero = Unit {0}
Inner stop (suc depth) = Steadies stop (λ k. IsFactor (wider k depth)) (factor stop depth)

abbrev Factors : ℕ → ℕ → List Token → Type 0
Factors stop depth tokens = Steady stop (λ k. IsFactor (wider k depth)) (begun stop (below stop depth)) tokens

handle_steady : (stop depth at len : ℕ) (rest : List Token) → behind is_open rest ≡ None →
    Factors stop depth (token at (Name len) ∷ rest)
handle_steady stop depth at len rest e =
    subst (Answers stop (λ k. IsFactor (wider k depth)) (begun stop (below stop depth)) (token at (Name len) ∷ rest)) (sym (named-leaf stop (below stop depth) at len rest e))
    (record {
      front = token at (Name len) ∷ [];
      tokens_are = refl;
      same = λ more. named-leaf stop (below stop depth) at len (again rest more) (behind-again is_open rest more e);
      follows = λ k others. handle (wider k depth) at len others;
    })

call_steady : (stop depth at len open_at : ℕ) → Inner stop depth → (inside : List Token) →
    Factors stop depth (token at (Name len) ∷ token open_at Open ∷ inside)
unfolding named
call_steady stop zero at len open_at inner inside = record {
  front = token at (Name len) ∷ [];
  suffix = token open_at Open ∷ inside;
  tokens_are = refl;
  points = (refl, tt);
  same = λ more. refl;
  completes = λ k. ([], Over at (forms.Name len) Bare, λ rest. handle k at len rest);
  deeper = λ deep k. (
    nought ∷ shut ∷ [],
    Over at (forms.Call len) (And Bare nought_is),
    λ rest.
        call k at len open_at 0 (nought ∷ shut ∷ rest) rest (And Bare nought_is) (expr_alone k (nought ∷ shut ∷ rest) (shut ∷ rest) nought_is (nought_expr k (shut ∷ rest))),
  );
}
call_steady stop (suc depth) at len open_at inner inside =
    prefixed stop (λ k. IsFactor (suc (wider k depth))) (token at (Name len) ∷ token open_at Open ∷ []) (called stop (factor stop depth) at len) (begun stop (Some (factor stop depth))) inside (λ ts. refl)
    (called_steady stop at len open_at (λ k. wider k depth) (factor stop depth) inner inside)

named_steady : (stop depth at len : ℕ) → Inner stop depth → (rest : List Token) (o : Option (List Token)) →
    behind is_open rest ≡ o → Factors stop depth (token at (Name len) ∷ rest)
named_steady stop depth at len inner rest None e = handle_steady stop depth at len rest e
named_steady stop depth at len inner rest (Some inside) e =
    let b = behind_is is_open Open rest inside open_only e in
    subst (λ ts. Factors stop depth (token at (Name len) ∷ ts)) (sym b.tokens_are) (call_steady stop depth at len b.place inner inside)

sign_steady : (stop depth at : ℕ) → Inner stop depth → (rest : List Token) → Factors stop depth (token at (Operator Sub) ∷ rest)
sign_steady stop zero at inner rest =
    refused stop (λ k. IsFactor k) (begun stop None) (token at (Operator Sub) ∷ rest) (TooDeep at) (an_operand (λ k. k))
    (λ deep k. (nought ∷ [], Over at forms.Sign (And Bare nought_is), λ others. sign k at (nought ∷ others) others nought_is (number k 0 (pos 0) others)))
    refl (refl, tt) (λ more. refl)
sign_steady stop (suc depth) at inner rest =
    prefixed stop (λ k. IsFactor (suc (wider k depth))) (token at (Operator Sub) ∷ []) (signed (factor stop depth) at) (begun stop (Some (factor stop depth))) rest (λ ts. refl)
    (signed_steady stop at (λ k. wider k depth) (factor stop depth) inner rest)

open_steady : (stop depth at : ℕ) → Inner stop depth → (rest : List Token) → Factors stop depth (token at Open ∷ rest)
open_steady stop zero at inner rest =
    refused stop (λ k. IsFactor k) (begun stop None) (token at Open ∷ rest) (TooDeep at) (an_operand (λ k. k))
    (λ deep k. (nought ∷ shut ∷ [], nought_is, λ others. brackets k at 0 (nought ∷ shut ∷ others) others nought_is (nought_expr k (shut ∷ others))))
    refl (refl, tt) (λ more. refl)
open_steady stop (suc depth) at inner rest =
    prefixed stop (λ k. IsFactor (suc (wider k depth))) (token at Open ∷ []) (bracketed stop (factor stop depth)) (begun stop (Some (factor stop depth))) rest (λ ts. refl)
    (bracketed_steady stop at (λ k. wider k depth) (factor stop depth) inner rest)

-- a token that begins no factor
no_factor : (stop depth at : ℕ) (s : Symbol) (rest : List Token) →
    ((ts : List Token) → begun_by stop (below stop depth) at s ts ≡ Err (Unexpected at)) → Factors stop depth (token at s ∷ rest)
no_factor stop depth at s rest h =
    refused stop (λ k. IsFactor (wider k depth)) (begun stop (below stop depth)) (token at s ∷ rest) (Unexpected at) (an_operand (λ k. wider k depth)) (λ deep k. absurd deep) (h rest) refl h

operator_steady : (stop depth at : ℕ) → Inner stop depth → (op : Binary) (rest : List Token) →
    Factors stop depth (token at (Operator op) ∷ rest)
operator_steady stop depth at inner Sub rest = sign_steady stop depth at inner rest
operator_steady stop depth at inner Add rest = no_factor stop depth at (Operator Add) rest (λ ts. refl)
operator_steady stop depth at inner Mul rest = no_factor stop depth at (Operator Mul) rest (λ ts. refl)
operator_steady stop depth at inner Div rest = no_factor stop depth at (Operator Div) rest (λ ts. refl)
operator_steady stop depth at inner Rem rest = no_factor stop depth at (Operator Rem) rest (λ ts. refl)
operator_steady stop depth at inner Eq rest = no_factor stop depth at (Operator Eq) rest (λ ts. refl)
operator_steady stop depth at inner Ne rest = no_factor stop depth at (Operator Ne) rest (λ ts. refl)
operator_steady stop depth at inner Lt rest = no_factor stop depth at (Operator Lt) rest (λ ts. refl)
operator_steady stop depth at inner Le rest = no_factor stop depth at (Operator Le) rest (λ ts. refl)
operator_steady stop depth at inner Gt rest = no_factor stop depth at (Operator Gt) rest (λ ts. refl)
operator_steady stop depth at inner Ge rest = no_factor stop depth at (Operator Ge) rest (λ ts. refl)

symbol_steady : (stop depth at : ℕ) → Inner stop depth → (s : Symbol) (rest : List Token) → Factors stop depth (token at s ∷ rest)
symbol_steady stop depth at inner (Number n) rest =
    prefixed stop (λ k. IsFactor (wider k depth)) (token at (Number n) ∷ []) (λ ts. Ok (Over at (forms.Number n) Bare, ts)) (begun stop (below stop depth)) rest (λ ts. refl)
    (given stop (λ k ts. IsFactor (wider k depth) (token at (Number n) ∷ ts)) (Over at (forms.Number n) Bare) rest (λ k others. number (wider k depth) at n others))
symbol_steady stop depth at inner (Name len) rest = named_steady stop depth at len inner rest (behind is_open rest) refl
symbol_steady stop depth at inner (Operator op) rest = operator_steady stop depth at inner op rest
symbol_steady stop depth at inner Open rest = open_steady stop depth at inner rest
symbol_steady stop depth at inner Close rest = no_factor stop depth at Close rest (λ ts. refl)
symbol_steady stop depth at inner Comma rest = no_factor stop depth at Comma rest (λ ts. refl)

begun_steady : (stop depth : ℕ) → Inner stop depth → (tokens : List Token) → Factors stop depth tokens
begun_steady stop depth inner [] =
    refused stop (λ k. IsFactor (wider k depth)) (begun stop (below stop depth)) [] (Unexpected stop) (an_operand (λ k. wider k depth)) (λ deep k. absurd deep) refl refl (λ more. refl)
begun_steady stop depth inner (t ∷ rest) = symbol_steady stop depth t.at inner t.symbol rest

pub factor_steady : (stop depth : ℕ) → Steadies stop (λ k. IsFactor (wider k depth)) (factor stop depth)
unfolding factor
factor_steady stop zero = begun_steady stop zero tt
factor_steady stop (suc depth) = begun_steady stop (suc depth) (factor_steady stop depth)
