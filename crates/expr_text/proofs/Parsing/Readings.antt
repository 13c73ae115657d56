-- The steps of a reading: what the whole gives, from what its first part gives.
use Rattle.std.proofs.Common.{◌≡◌, ℕ, zero, suc, ◌+◌, ◌<◌, List, [], ◌∷◌, ◌++◌, length, Option, Ok, Err, Some, None, refl, ap, arith}
use Rattle.std.proofs.lemmas.List.{append_assoc}
use Rattle.text_model.specs.Grammar.{Reading, arguments, begun, behind, behind_close, bracketed, called, deeper, expr, factor, further, grouped, is_comma, is_open, leaf, most, named, operation, operator_at, place_at, row, signed, written_of}
use Rattle.text_model.specs.Written.{Written, Operands, Over, Bare, And}
use Rattle.hive_model.specs.declared.expr.Binary.{Binary}
use Rattle.text_model.specs.declared.expr_refusal.ExprRefusal.{ExprRefusal}
use Rattle.text_model.specs.declared.expr_refusal.ExprRefusal.TheVariants.{Unexpected}
use Rattle.text_model.specs.declared.token.Form.TheVariants as forms
use Rattle.text_model.specs.declared.token.Level.{Level}
use Rattle.text_model.specs.declared.token.Token.{Token}
use Rattle.expr_text.specs.declared.grammar.Part.{Part}
use Rattle.expr_text.specs.Parts.{below, part, postfix}

-- rows

pub row-begins : (level : Level) (operand : List Token → Reading) (tokens rest : List Token) (w : Written) →
    operand tokens ≡ Ok (w, rest) → row level operand tokens ≡ grouped level operand (most level rest) w rest
unfolding row
row-begins level operand tokens rest w h = rw h refl

pub row-refused : (level : Level) (operand : List Token → Reading) (tokens : List Token) (e : ExprRefusal) →
    operand tokens ≡ Err e → row level operand tokens ≡ Err e
unfolding row
row-refused level operand tokens e h = rw h refl

pub grouped-more : (level : Level) (operand : List Token → Reading) (n m : ℕ) (left w : Written) (tokens right rest : List Token) (at : ℕ) (op : Binary) →
    n ≡ m + 1 → operator_at level tokens ≡ Some (at, op, right) → operand right ≡ Ok (w, rest) →
    grouped level operand n left tokens ≡ grouped level operand m (operation at op left w) rest
unfolding grouped
grouped-more level operand zero m left w tokens right rest at op e h k = absurd (omega arith)
grouped-more level operand (suc n) m left w tokens right rest at op e h k =
    let less : n ≡ m = omega arith in
    rw h (rw k (ap (λ i. grouped level operand i (operation at op left w) rest) less))

pub grouped-refused : (level : Level) (operand : List Token → Reading) (n : ℕ) (left : Written) (tokens right : List Token) (at : ℕ) (op : Binary) (e : ExprRefusal) →
    0 < n → operator_at level tokens ≡ Some (at, op, right) → operand right ≡ Err e → grouped level operand n left tokens ≡ Err e
unfolding grouped
grouped-refused level operand zero left tokens right at op e some h k = absurd (omega arith)
grouped-refused level operand (suc n) left tokens right at op e some h k = rw h (rw k refl)

pub grouped-end : (level : Level) (operand : List Token → Reading) (n : ℕ) (left : Written) (tokens : List Token) →
    operator_at level tokens ≡ None → grouped level operand n left tokens ≡ Ok (left, tokens)
unfolding grouped
grouped-end level operand zero left tokens h = refl
grouped-end level operand (suc n) left tokens h = rw h refl

pub grouped-full : (level : Level) (operand : List Token → Reading) (n : ℕ) (left : Written) (tokens : List Token) → n ≡ 0 →
    grouped level operand n left tokens ≡ Ok (left, tokens)
unfolding grouped
grouped-full level operand n left tokens h = rw h refl

-- the parts of an operation
pub postfix-operation : (old : List Part) (left w : Written) (at : ℕ) (op : Binary) →
    (old ++ postfix left) ++ postfix w ++ part at (forms.Operator op) 2 ∷ [] ≡ old ++ postfix (operation at op left w)
postfix-operation old left w at op = simp append_assoc

-- operands of a function

pub arguments-begin : (next : List Token → Reading) (tokens rest : List Token) (w : Written) → next tokens ≡ Ok (w, rest) →
    arguments next tokens ≡ further next (length rest) (And Bare w) rest
unfolding arguments
arguments-begin next tokens rest w h = rw h refl

pub arguments-refused : (next : List Token → Reading) (tokens : List Token) (e : ExprRefusal) → next tokens ≡ Err e →
    arguments next tokens ≡ Err e
unfolding arguments
arguments-refused next tokens e h = rw h refl

pub further-more : (next : List Token → Reading) (n m : ℕ) (before : Operands) (w : Written) (tokens behind_it rest : List Token) →
    n ≡ m + 1 → behind is_comma tokens ≡ Some behind_it → next behind_it ≡ Ok (w, rest) →
    further next n before tokens ≡ further next m (And before w) rest
unfolding further
further-more next zero m before w tokens behind_it rest e h k = absurd (omega arith)
further-more next (suc n) m before w tokens behind_it rest e h k =
    let less : n ≡ m = omega arith in
    rw h (rw k (ap (λ i. further next i (And before w) rest) less))

pub further-refused : (next : List Token → Reading) (n : ℕ) (before : Operands) (tokens behind_it : List Token) (e : ExprRefusal) →
    0 < n → behind is_comma tokens ≡ Some behind_it → next behind_it ≡ Err e → further next n before tokens ≡ Err e
unfolding further
further-refused next zero before tokens behind_it e some h k = absurd (omega arith)
further-refused next (suc n) before tokens behind_it e some h k = rw h (rw k refl)

pub further-end : (next : List Token → Reading) (n : ℕ) (before : Operands) (tokens : List Token) →
    behind is_comma tokens ≡ None → further next n before tokens ≡ Ok (before, tokens)
unfolding further
further-end next zero before tokens h = refl
further-end next (suc n) before tokens h = rw h refl

pub further-full : (next : List Token → Reading) (n : ℕ) (before : Operands) (tokens : List Token) → n ≡ 0 →
    further next n before tokens ≡ Ok (before, tokens)
unfolding further
further-full next n before tokens h = rw h refl

-- factors

pub factor-begun : (stop depth : ℕ) (tokens : List Token) → factor stop depth tokens ≡ begun stop (below stop depth) tokens
unfolding factor
factor-begun stop zero tokens = refl
factor-begun stop (suc depth) tokens = refl

-- one more bracket or sign may be open
pub below-some : (stop depth less : ℕ) → less + 1 ≡ depth → below stop depth ≡ Some (factor stop less)
below-some stop zero less e = absurd (omega arith)
below-some stop (suc depth) less e = ap (λ d. Some (factor stop d)) (omega arith)

pub below-none : (stop depth : ℕ) → depth ≡ 0 → below stop depth ≡ None
below-none stop depth e = rw e refl

pub signed-read : (next : List Token → Reading) (at : ℕ) (tokens rest : List Token) (w : Written) → next tokens ≡ Ok (w, rest) →
    signed next at tokens ≡ Ok (Over at forms.Sign (And Bare w), rest)
unfolding signed
signed-read next at tokens rest w h = rw h refl

pub signed-refused : (next : List Token → Reading) (at : ℕ) (tokens : List Token) (e : ExprRefusal) → next tokens ≡ Err e →
    signed next at tokens ≡ Err e
unfolding signed
signed-refused next at tokens e h = rw h refl

pub bracketed-read : (stop : ℕ) (next : List Token → Reading) (tokens rest after : List Token) (w : Written) →
    expr next tokens ≡ Ok (w, rest) → behind_close stop rest ≡ Ok after → bracketed stop next tokens ≡ Ok (w, after)
unfolding bracketed
bracketed-read stop next tokens rest after w h k = rw h (rw k refl)

pub bracketed-open : (stop : ℕ) (next : List Token → Reading) (tokens rest : List Token) (w : Written) (e : ExprRefusal) →
    expr next tokens ≡ Ok (w, rest) → behind_close stop rest ≡ Err e → bracketed stop next tokens ≡ Err e
unfolding bracketed
bracketed-open stop next tokens rest w e h k = rw h (rw k refl)

pub bracketed-refused : (stop : ℕ) (next : List Token → Reading) (tokens : List Token) (e : ExprRefusal) →
    expr next tokens ≡ Err e → bracketed stop next tokens ≡ Err e
unfolding bracketed
bracketed-refused stop next tokens e h = rw h refl

pub called-read : (stop : ℕ) (next : List Token → Reading) (at len : ℕ) (tokens rest after : List Token) (all : Operands) →
    arguments (expr next) tokens ≡ Ok (all, rest) → behind_close stop rest ≡ Ok after →
    called stop next at len tokens ≡ Ok (Over at (forms.Call len) all, after)
unfolding called
called-read stop next at len tokens rest after all h k = rw h (rw k refl)

pub called-open : (stop : ℕ) (next : List Token → Reading) (at len : ℕ) (tokens rest : List Token) (all : Operands) (e : ExprRefusal) →
    arguments (expr next) tokens ≡ Ok (all, rest) → behind_close stop rest ≡ Err e → called stop next at len tokens ≡ Err e
unfolding called
called-open stop next at len tokens rest all e h k = rw h (rw k refl)

pub called-refused : (stop : ℕ) (next : List Token → Reading) (at len : ℕ) (tokens : List Token) (e : ExprRefusal) →
    arguments (expr next) tokens ≡ Err e → called stop next at len tokens ≡ Err e
unfolding called
called-refused stop next at len tokens e h = rw h refl

-- a name with no bracket behind it
pub named-leaf : (stop : ℕ) (lower : Option (List Token → Reading)) (at len : ℕ) (tokens : List Token) →
    behind is_open tokens ≡ None → named stop lower at len tokens ≡ leaf at (forms.Name len) tokens
unfolding named
named-leaf stop lower at len tokens h = rw h refl

-- a name with a bracket behind it
pub named-call : (stop : ℕ) (lower : Option (List Token → Reading)) (at len : ℕ) (tokens inside : List Token) →
    behind is_open tokens ≡ Some inside →
    named stop lower at len tokens ≡ deeper (place_at stop tokens) lower (λ next. called stop next at len inside)
unfolding named
named-call stop lower at len tokens inside h = rw h refl

-- the whole

pub written-refused : (stop depth : ℕ) (tokens : List Token) (e : ExprRefusal) → expr (factor stop depth) tokens ≡ Err e →
    written_of stop depth tokens ≡ Err e
unfolding written_of
written-refused stop depth tokens e h = rw h refl

pub written-end : (stop depth : ℕ) (tokens rest : List Token) (w : Written) → expr (factor stop depth) tokens ≡ Ok (w, rest) →
    rest ≡ [] → written_of stop depth tokens ≡ Ok w
unfolding written_of
written-end stop depth tokens rest w h k = rw h (rw k refl)

pub written-more : (stop depth : ℕ) (tokens rest : List Token) (w : Written) (t : Token) (after : List Token) →
    expr (factor stop depth) tokens ≡ Ok (w, rest) → rest ≡ t ∷ after → written_of stop depth tokens ≡ Err (Unexpected t.at)
unfolding written_of
written-more stop depth tokens rest w t after h k = rw h (rw k refl)
