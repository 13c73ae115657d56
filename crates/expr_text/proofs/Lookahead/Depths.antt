-- With more brackets and signs allowed a reading gives the same, unless it was too deep.
use Rattle.std.proofs.Common.{◌≡◌, ◌⊎◌, inl, inr, ℕ, zero, suc, ◌+◌, Bool, true, false, List, [], ◌∷◌, Option, Result, Ok, Err, Some, None, refl, sym, ap, ◌∙◌, subst, arith}
use Rattle.std.specs.Bool.{if◌then◌else◌}
use Rattle.text_model.specs.Grammar.{Reading, arguments, begun, begun_by, behind, bracketed, called, deeper, expr, factor, further, grouped, if_end, is_comma, is_open, is_sign, most, named, operator_at, place_at, row, signed, written_of}
use Rattle.text_model.specs.Steps.{◌>>=◌}
use Rattle.text_model.specs.Written.{Written, Operands, Bare, And}
use Rattle.hive_model.specs.declared.expr.Binary.{Binary}
use Rattle.text_model.specs.declared.expr_refusal.ExprRefusal.{ExprRefusal}
use Rattle.text_model.specs.declared.expr_refusal.ExprRefusal.TheVariants.{Unexpected}
use Rattle.text_model.specs.declared.token.Level.{Level}
use Rattle.text_model.specs.declared.token.Level.TheVariants.{Compare, Sum, Product}
use Rattle.text_model.specs.declared.token.Symbol.{Symbol}
use Rattle.text_model.specs.declared.token.Symbol.TheVariants.{Number, Name, Operator, Open, Close, Comma}
use Rattle.text_model.specs.declared.token.Token.{Token}
use Rattle.expr_text.proofs.Lookahead.Steady.{IsDeep}

-- the other is the same, unless the first is too deep
abbrev Upto : {A : Type 0} → Result A ExprRefusal → Result A ExprRefusal → Type 0
Upto (Ok x) other = other ≡ Ok x
Upto (Err e) other = (IsDeep e → ⊥) → other ≡ Err e

abbrev AreUpto : (List Token → Reading) → (List Token → Reading) → Type 0
AreUpto f g = (tokens : List Token) → Upto (f tokens) (g tokens)

itself : {A : Type 0} (r : Result A ExprRefusal) → Upto r r
itself (Ok x) = refl
itself (Err e) = λ shallow. refl

in_turn : {A B : Type 0} (r s : Result A ExprRefusal) (f g : A → Result B ExprRefusal) → Upto r s → ((x : A) → Upto (f x) (g x)) →
    Upto (r >>= f) (s >>= g)
in_turn (Ok x) s f g h k = subst (λ o. Upto (f x) (o >>= g)) (sym h) (k x)
in_turn (Err e) s f g h k = λ shallow. ap (λ o. o >>= g) (h shallow)

-- rows

grouped_by : (level : Level) (f g : List Token → Reading) → AreUpto f g → (n : ℕ) (left : Written) (tokens : List Token) →
    ((l : Written) (ts : List Token) → Upto (grouped level f n l ts) (grouped level g n l ts)) →
    (o : Option (ℕ × Binary × List Token)) → operator_at level tokens ≡ o →
    Upto (grouped level f (suc n) left tokens) (grouped level g (suc n) left tokens)
unfolding grouped
grouped_by level f g same n left tokens go None e = rw e refl
grouped_by level f g same n left tokens go (Some it) e = rw e (in_turn (f it.2) (g it.2) _ _ (same it.2) (λ r. go _ r.1))

grouped_upto : (level : Level) (f g : List Token → Reading) → AreUpto f g → (n : ℕ) (left : Written) (tokens : List Token) →
    Upto (grouped level f n left tokens) (grouped level g n left tokens)
unfolding grouped
grouped_upto level f g same zero left tokens = refl
grouped_upto level f g same (suc n) left tokens =
    grouped_by level f g same n left tokens (λ l ts. grouped_upto level f g same n l ts) (operator_at level tokens) refl

row_upto : (level : Level) (f g : List Token → Reading) → AreUpto f g → AreUpto (row level f) (row level g)
unfolding row
row_upto level f g same tokens =
    in_turn (f tokens) (g tokens) _ _ (same tokens) (λ left. grouped_upto level f g same (most level left.1) left.0 left.1)

expr_upto : (f g : List Token → Reading) → AreUpto f g → AreUpto (expr f) (expr g)
expr_upto f g same =
    row_upto Compare (row Sum (row Product f)) (row Sum (row Product g)) (row_upto Sum (row Product f) (row Product g) (row_upto Product f g same))

-- operands of a function

further_by : (f g : List Token → Reading) → AreUpto f g → (n : ℕ) (before : Operands) (tokens : List Token) →
    ((b : Operands) (ts : List Token) → Upto (further f n b ts) (further g n b ts)) → (o : Option (List Token)) →
    behind is_comma tokens ≡ o → Upto (further f (suc n) before tokens) (further g (suc n) before tokens)
unfolding further
further_by f g same n before tokens go None e = rw e refl
further_by f g same n before tokens go (Some rest) e = rw e (in_turn (f rest) (g rest) _ _ (same rest) (λ r. go _ r.1))

further_upto : (f g : List Token → Reading) → AreUpto f g → (n : ℕ) (before : Operands) (tokens : List Token) →
    Upto (further f n before tokens) (further g n before tokens)
unfolding further
further_upto f g same zero before tokens = refl
further_upto f g same (suc n) before tokens =
    further_by f g same n before tokens (λ b ts. further_upto f g same n b ts) (behind is_comma tokens) refl

arguments_upto : (f g : List Token → Reading) → AreUpto f g → (tokens : List Token) →
    Upto (arguments f tokens) (arguments g tokens)
unfolding arguments
arguments_upto f g same tokens =
    in_turn (f tokens) (g tokens) _ _ (same tokens) (λ it. further_upto f g same _ (And Bare it.0) it.1)

-- factors

signed_upto : (at : ℕ) (f g : List Token → Reading) → AreUpto f g → (tokens : List Token) →
    Upto (signed f at tokens) (signed g at tokens)
unfolding signed
signed_upto at f g same tokens = in_turn (f tokens) (g tokens) _ _ (same tokens) (λ it. refl)

bracketed_upto : (stop : ℕ) (f g : List Token → Reading) → AreUpto f g → (tokens : List Token) →
    Upto (bracketed stop f tokens) (bracketed stop g tokens)
unfolding bracketed
bracketed_upto stop f g same tokens = in_turn (expr f tokens) (expr g tokens) _ _ (expr_upto f g same tokens) (λ it. itself _)

called_upto : (stop at len : ℕ) (f g : List Token → Reading) → AreUpto f g → (tokens : List Token) →
    Upto (called stop f at len tokens) (called stop g at len tokens)
unfolding called
called_upto stop at len f g same tokens =
    in_turn (arguments (expr f) tokens) (arguments (expr g) tokens) _ _ (arguments_upto (expr f) (expr g) (expr_upto f g same) tokens) (λ all. itself _)

-- what may be read behind one bracket or sign more
abbrev AreLower : Option (List Token → Reading) → Option (List Token → Reading) → Type 0
AreLower None other = Unit {0}
AreLower (Some f) None = ⊥
AreLower (Some f) (Some g) = AreUpto f g

deeper_upto : (at : ℕ) (lower other : Option (List Token → Reading)) → AreLower lower other →
    (read : (List Token → Reading) → Reading) → ((f g : List Token → Reading) → AreUpto f g → Upto (read f) (read g)) →
    Upto (deeper at lower read) (deeper at other read)
deeper_upto at None other same read k = λ shallow. absurd (shallow tt)
deeper_upto at (Some f) None same read k = absurd same
deeper_upto at (Some f) (Some g) same read k = k f g same

named_by : (stop at len : ℕ) (lower other : Option (List Token → Reading)) → AreLower lower other →
    (tokens : List Token) (o : Option (List Token)) → behind is_open tokens ≡ o →
    Upto (named stop lower at len tokens) (named stop other at len tokens)
unfolding named
named_by stop at len lower other same tokens None e = rw e refl
named_by stop at len lower other same tokens (Some inside) e =
    rw e (deeper_upto (place_at stop tokens) lower other same (λ factor. called stop factor at len inside) (λ f g h. called_upto stop at len f g h inside))

operator_by : (at : ℕ) (lower other : Option (List Token → Reading)) → AreLower lower other → (tokens : List Token) (b : Bool) →
    Upto {A = Written × List Token} (if b then deeper at lower (λ factor. signed factor at tokens) else Err (Unexpected at)) (if b then deeper at other (λ factor. signed factor at tokens) else Err (Unexpected at))
operator_by at lower other same tokens true =
    deeper_upto at lower other same (λ factor. signed factor at tokens) (λ f g h. signed_upto at f g h tokens)
operator_by at lower other same tokens false = λ shallow. refl

symbol_upto : (stop at : ℕ) (lower other : Option (List Token → Reading)) → AreLower lower other →
    (s : Symbol) (tokens : List Token) → Upto (begun_by stop lower at s tokens) (begun_by stop other at s tokens)
symbol_upto stop at lower other same (Number n) tokens = refl
symbol_upto stop at lower other same (Name len) tokens = named_by stop at len lower other same tokens (behind is_open tokens) refl
symbol_upto stop at lower other same (Operator op) tokens = operator_by at lower other same tokens (is_sign op)
symbol_upto stop at lower other same Open tokens =
    deeper_upto at lower other same (λ factor. bracketed stop factor tokens) (λ f g h. bracketed_upto stop f g h tokens)
symbol_upto stop at lower other same Close tokens = λ shallow. refl
symbol_upto stop at lower other same Comma tokens = λ shallow. refl

begun_upto : (stop : ℕ) (lower other : Option (List Token → Reading)) → AreLower lower other →
    AreUpto (begun stop lower) (begun stop other)
begun_upto stop lower other same [] = λ shallow. refl
begun_upto stop lower other same (t ∷ rest) = symbol_upto stop t.at lower other same t.symbol rest

factor_upto : (stop depth : ℕ) → AreUpto (factor stop depth) (factor stop (suc depth))
unfolding factor
factor_upto stop zero tokens = begun_upto stop None (Some (factor stop zero)) tt tokens
factor_upto stop (suc depth) tokens =
    begun_upto stop (Some (factor stop depth)) (Some (factor stop (suc depth))) (factor_upto stop depth) tokens

-- the whole

written_upto : (stop depth : ℕ) (tokens : List Token) → Upto (written_of stop depth tokens) (written_of stop (suc depth) tokens)
unfolding written_of
written_upto stop depth tokens =
    in_turn (expr (factor stop depth) tokens) (expr (factor stop (suc depth)) tokens) _ _ (expr_upto (factor stop depth) (factor stop (suc depth)) (factor_upto stop depth) tokens) (λ it. itself (if_end it.0 it.1))

-- whatever is found but want of depth
abbrev IsShallow : {A : Type 0} → Result A ExprRefusal → Type 0
IsShallow (Ok x) = Unit {0}
IsShallow (Err e) = IsDeep e → ⊥

upto_same : {A : Type 0} (r s : Result A ExprRefusal) → IsShallow r → Upto r s → s ≡ r
upto_same (Ok x) s shallow h = h
upto_same (Err e) s shallow h = h shallow

same_beyond : (stop k depth other : ℕ) (tokens : List Token) (r : Result Written ExprRefusal) → IsShallow r → depth + k ≡ other →
    written_of stop depth tokens ≡ r → written_of stop other tokens ≡ r
same_beyond stop zero depth other tokens r shallow e h =
    let here : depth ≡ other = omega arith in subst (λ d. written_of stop d tokens ≡ r) here h
same_beyond stop (suc k) depth other tokens r shallow e h =
    same_beyond stop k (suc depth) other tokens r shallow (omega arith) (upto_same r (written_of stop (suc depth) tokens) shallow (subst (λ o. Upto o (written_of stop (suc depth) tokens)) h (written_upto stop depth tokens)))

apart : (a b : ℕ) → ((k : ℕ) × (a + k ≡ b)) ⊎ ((k : ℕ) × (b + k ≡ a))
apart zero b = inl (b, omega arith)
apart (suc a) zero = inr (suc a, omega arith)
apart (suc a) (suc b) = by (apart a b)
  where
    by : ((k : ℕ) × (a + k ≡ b)) ⊎ ((k : ℕ) × (b + k ≡ a)) → ((k : ℕ) × (suc a + k ≡ suc b)) ⊎ ((k : ℕ) × (suc b + k ≡ suc a))
    by (inl p) = inl (p.0, omega (arith, p.1))
    by (inr p) = inr (p.0, omega (arith, p.1))

-- what is refused at one depth as unexpected is no expression at any
pub never-read : (stop depth other at : ℕ) (tokens : List Token) (w : Written) →
    written_of stop depth tokens ≡ Err (Unexpected at) → written_of stop other tokens ≡ Ok w → ⊥
never-read stop depth other at tokens w h k = by (apart depth other)
  where
    clash : ◌≡◌ {A = Result Written ExprRefusal} (Err (Unexpected at)) (Ok w) → ⊥
    clash e = cc

    by : ((k : ℕ) × (depth + k ≡ other)) ⊎ ((k : ℕ) × (other + k ≡ depth)) → ⊥
    by (inl p) = clash (sym (same_beyond stop p.0 depth other tokens (Err (Unexpected at)) (λ deep. deep) p.1 h) ∙ k)
    by (inr p) = clash (sym h ∙ same_beyond stop p.0 other depth tokens (Ok w) tt p.1 k)
