use Rattle.std.proofs.Common.{◌≡◌, ℕ, ◌+◌, ◌-◌, ◌++◌, [], ◌∷◌, List, length, Option, ◌⊎◌, inl, inr, Err, refl, sym, ap, ◌∙◌, arith, rules, w64}
use Rattle.std.proofs.lemmas.Int.{to_z-of_z}
use Rattle.std.proofs.lemmas.List.{append_assoc}
use Rattle.std.proofs.lemmas.Result.{err_from_is_err_and}
use Rattle.text_model.specs.Grammar.{Reading, begun_by, expr, factor, further, grouped, most, operand, operation}
use Rattle.text_model.specs.Written.{Over, Bare, And}
use Rattle.text_model.specs.declared.token.Form.TheVariants as forms
use Rattle.text_model.specs.declared.expr_refusal.ExprRefusal.TheVariants.{Unexpected, TooDeep}
use Rattle.text_model.specs.declared.token.Symbol.{Symbol}
use Rattle.text_model.specs.declared.token.Token.{Token}
use Rattle.text_model.specs.declared.token.Symbol.TheVariants.{Close, Comma}
use Rattle.expr_text.specs.Parts.{below, part, postfix, postfix_all, count}
use Rattle.expr_text.proofs.Parsing.Readings.{row-begins, row-refused, grouped-more, grouped-refused, grouped-end, grouped-full, postfix-operation, arguments-begin, arguments-refused, further-more, further-refused, further-end, further-full, factor-begun, below-some, below-none, signed-read, signed-refused, bracketed-read, bracketed-open, bracketed-refused, called-read, called-open, called-refused, named-leaf, named-call}
use Rattle.expr_text.proofs.grammar.+grammar.Goals as goal

-- a bracket or comma begins no factor
other : (stop : ℕ) (lower : Option (List Token → Reading)) (at : ℕ) (symbol : Symbol) (tokens : List Token) →
    symbol ≡ Close ⊎ symbol ≡ Comma → begun_by stop lower at symbol tokens ≡ Err (Unexpected at)
other stop lower at symbol tokens (inl h) = rw h refl
other stop lower at symbol tokens (inr h) = rw h refl

-- rows

pub row-returns-in_err-rest : goal.row-returns-in_err-rest
row-returns-in_err-rest t c =
    let p = err_from_is_err_and c.from_residual.result c.from_residual.ensures.1 in
    rw (p.1, p.2) (λ h. row-refused c.args.level _ c.args.tokens.now _ (c.in_err-rest.ensures h))

pub row-loop-turn-init : goal.row-loop-turn-init
row-loop-turn-init t c =
    let read = c.in_ok-rest.ensures in
    let first = row-begins c.args.level (operand c.args.level (factor c.args.stop c.args.depth)) _ _ _ read.1 in
    let all : c.most-turn-end.result - 0 ≡ most c.args.level c.in_ok-rest.rest.now = omega (arith, c.most-turn-end.ensures) in
    (read.0, first ∙ ap (λ n. grouped c.args.level (operand c.args.level (factor c.args.stop c.args.depth)) n read.0 c.in_ok-rest.rest.now) (sym all), read.2)

pub row-returns-in_err-rest-2 : goal.row-returns-in_err-rest-2
row-returns-in_err-rest-2 t c =
    let p = err_from_is_err_and c.from_residual-in_err-rest-2.result c.from_residual-in_err-rest-2.ensures.1 in
    let so_far = c.loop-turn.invariant in
    rw (p.1, p.2) (λ h. so_far.1 ∙ grouped-refused c.args.level _ _ so_far.0 _ _ _ _ _ (omega arith) c.in-Some.ensures (c.in_err-rest-2.ensures h))

pub row-loop-turn-preserved : goal.row-loop-turn-preserved
row-loop-turn-preserved t c =
    let so_far = c.loop-turn.invariant in
    let read = c.in_ok-rest-2.ensures in (
      operation c.in-Some.at c.in-Some.operator so_far.0 read.0,
      so_far.1 ∙ grouped-more c.args.level _ _ _ so_far.0 read.0 _ _ _ _ _ (omega arith) c.in-Some.ensures read.1,
      c.in_ok-push.ensures.items
          ∙ (ap (λ xs. xs ++ part c.in-Some.at (forms.Operator c.in-Some.operator) 2 ∷ []) (read.2 ∙ ap (λ xs. xs ++ postfix read.0) so_far.2) ∙ postfix-operation c.args.parts.now.items so_far.0 read.0 c.in-Some.at c.in-Some.operator),
    )

pub row-returns-in_default : goal.row-returns-in_default
row-returns-in_default t c =
    let so_far = c.loop-turn.invariant in
    (so_far.0, so_far.1 ∙ grouped-end c.args.level _ _ so_far.0 _ c.in_default.ensures, so_far.2)

pub row-returns : goal.row-returns
row-returns t c =
    let so_far = c.loop-turn.invariant in
    (so_far.0, so_far.1 ∙ grouped-full c.args.level _ _ so_far.0 _ (omega arith), so_far.2)

-- operands of a function

pub arguments-returns-in_err-rest : goal.arguments-returns-in_err-rest
arguments-returns-in_err-rest t c =
    let p = err_from_is_err_and c.from_residual.result c.from_residual.ensures.1 in
    rw (p.1, p.2) (λ h. arguments-refused _ c.args.tokens.now _ (c.in_err-rest.ensures h))

pub arguments-loop-turn-init : goal.arguments-loop-turn-init
arguments-loop-turn-init t c =
    let read = c.in_ok-rest.ensures in
    let next = expr (factor c.args.stop c.args.depth) in
    let all : length c.in_ok-rest.rest.now - 0 ≡ length c.in_ok-rest.rest.now = omega arith in (
      And Bare read.0,
      arguments-begin next c.args.tokens.now c.in_ok-rest.rest.now read.0 read.1
          ∙ ap (λ n. further next n (And Bare read.0) c.in_ok-rest.rest.now) (sym all),
      read.2,
      omega arith,
      refl,
    )

pub arguments-returns-in_err-rest-2 : goal.arguments-returns-in_err-rest-2
arguments-returns-in_err-rest-2 t c =
    let p = err_from_is_err_and c.from_residual-in_err-rest-2.result c.from_residual-in_err-rest-2.ensures.1 in
    let so_far = c.loop-turn.invariant in
    rw (p.1, p.2) (λ h. so_far.1 ∙ further-refused _ _ so_far.0 _ _ _ (omega arith) c.in-Some.ensures (c.in_err-rest-2.ensures h))

pub arguments-loop-turn-preserved : goal.arguments-loop-turn-preserved
arguments-loop-turn-preserved t c =
    let so_far = c.loop-turn.invariant in
    let read = c.in_ok-rest-2.ensures in (
      And so_far.0 read.0,
      so_far.1 ∙ further-more _ _ _ so_far.0 read.0 _ _ _ (omega arith) c.in-Some.ensures read.1,
      read.2
          ∙ (ap (λ xs. xs ++ postfix read.0) so_far.2 ∙ append_assoc c.args.parts.now.items (postfix_all so_far.0) (postfix read.0)),
      ap (λ n. n + 1) so_far.3,
      omega arith,
    )

pub arguments-returns-in_default : goal.arguments-returns-in_default
arguments-returns-in_default t c =
    let so_far = c.loop-turn.invariant in
    (so_far.0, so_far.1 ∙ further-end _ _ so_far.0 _ c.in_default.ensures, so_far.2, so_far.3)

pub arguments-returns : goal.arguments-returns
arguments-returns t c =
    let so_far = c.loop-turn.invariant in
    (so_far.0, so_far.1 ∙ further-full _ _ so_far.0 _ (omega arith), so_far.2, so_far.3)

-- factors

pub signed-returns-in_err-rest : goal.signed-returns-in_err-rest
signed-returns-in_err-rest t c =
    let p = err_from_is_err_and c.from_residual-in_err-rest.result c.from_residual-in_err-rest.ensures.1 in
    rw (p.1, p.2) (λ h. rw (below-some c.args.stop c.args.depth _ c.in_ok-depth.ensures) (signed-refused _ _ _ _ (c.in_err-rest.ensures h)))

pub signed-returns : goal.signed-returns
signed-returns t c =
    let read = c.in_ok-rest.ensures in (
      Over c.args.at forms.Sign (And Bare read.0),
      rw (below-some c.args.stop c.args.depth _ c.in_ok-depth.ensures) (signed-read _ _ _ _ read.0 read.1),
      c.in_ok-push.ensures.items
          ∙ (ap (λ xs. xs ++ part c.args.at forms.Sign 1 ∷ []) read.2 ∙ append_assoc c.args.parts.now.items (postfix read.0) (part c.args.at forms.Sign 1 ∷ [])),
    )

pub bracketed-returns-in_err-rest : goal.bracketed-returns-in_err-rest
bracketed-returns-in_err-rest t c =
    let p = err_from_is_err_and c.from_residual-in_err-rest.result c.from_residual-in_err-rest.ensures.1 in
    rw (p.1, p.2) (λ h. rw (below-some c.args.stop c.args.depth _ c.in_ok-depth.ensures) (bracketed-refused _ _ _ _ (c.in_err-rest.ensures h)))

pub bracketed-returns-in_err-rest-2 : goal.bracketed-returns-in_err-rest-2
bracketed-returns-in_err-rest-2 t c =
    let p = err_from_is_err_and c.from_residual-in_err-rest-2.result c.from_residual-in_err-rest-2.ensures.1 in
    let read = c.in_ok-rest.ensures in
    rw (p.1, p.2) (λ h. rw (below-some c.args.stop c.args.depth _ c.in_ok-depth.ensures) (bracketed-open _ _ _ _ read.0 _ read.1 c.in_err-rest-2.ensures))

pub bracketed-returns : goal.bracketed-returns
bracketed-returns t c =
    let read = c.in_ok-rest.ensures in
    (read.0, rw (below-some c.args.stop c.args.depth _ c.in_ok-depth.ensures) (bracketed-read _ _ _ _ _ read.0 read.1 c.in_ok-rest-2.ensures), read.2)

pub named-returns-in_default : goal.named-returns-in_default
named-returns-in_default t c =
    (Over c.args.at (forms.Name c.args.length) Bare, named-leaf c.args.stop _ c.args.at c.args.length c.args.tokens.now c.in_default.ensures, c.in_ok-leaf.ensures)

pub named-returns-in_err-depth : goal.named-returns-in_err-depth
named-returns-in_err-depth t c =
    let p = err_from_is_err_and c.from_residual-in_err-depth.result c.from_residual-in_err-depth.ensures.1 in
    rw (p.1, p.2) (λ h. named-call c.args.stop _ c.args.at c.args.length _ _ c.in-Some.ensures
    ∙ rw (below-none c.args.stop c.args.depth c.in_err-depth.ensures.0) (ap Err (ap TooDeep (sym c.place_at.ensures) ∙ sym c.in_err-depth.ensures.1)))

pub named-returns-in_err-operands : goal.named-returns-in_err-operands
named-returns-in_err-operands t c =
    let p = err_from_is_err_and c.from_residual-in_err-operands.result c.from_residual-in_err-operands.ensures.1 in
    rw (p.1, p.2) (λ h. named-call c.args.stop _ c.args.at c.args.length _ _ c.in-Some.ensures
    ∙ rw (below-some c.args.stop c.args.depth _ c.in_ok-depth.ensures) (called-refused _ _ _ _ _ _ (c.in_err-operands.ensures h)))

pub named-returns-in_err-rest : goal.named-returns-in_err-rest
named-returns-in_err-rest t c =
    let p = err_from_is_err_and c.from_residual-in_err-rest.result c.from_residual-in_err-rest.ensures.1 in
    let read = c.in_ok-operands.ensures in
    rw (p.1, p.2) (λ h. named-call c.args.stop _ c.args.at c.args.length _ _ c.in-Some.ensures
    ∙ rw (below-some c.args.stop c.args.depth _ c.in_ok-depth.ensures) (called-open _ _ _ _ _ _ read.0 _ read.1 c.in_err-rest.ensures))

pub named-returns : goal.named-returns
named-returns t c =
    let read = c.in_ok-operands.ensures in (
      Over c.args.at (forms.Call c.args.length) read.0,
      named-call c.args.stop _ c.args.at c.args.length _ _ c.in-Some.ensures
          ∙ rw (below-some c.args.stop c.args.depth _ c.in_ok-depth.ensures) (called-read _ _ _ _ _ _ _ read.0 read.1 c.in_ok-rest.ensures),
      c.in_ok-push.ensures.items
          ∙ (rw (read.2, read.3) (append_assoc c.args.parts.now.items (postfix_all read.0) (part c.args.at (forms.Call c.args.length) (count read.0) ∷ []))),
    )

pub factor-returns-in_default : goal.factor-returns-in_default
factor-returns-in_default t c = λ h. factor-begun c.args.stop c.args.depth c.args.tokens.now ∙ rw c.in_default.ensures refl

pub factor-returns-in_ok-leaf-in-Number : goal.factor-returns-in_ok-leaf-in-Number
factor-returns-in_ok-leaf-in-Number t c = (
  Over c.in-Some.token.at (forms.Number c.in-Number.number) Bare,
  factor-begun c.args.stop c.args.depth c.args.tokens.now ∙ rw (c.in-Some.ensures, c.in-Number.is) refl,
  c.in_ok-leaf-in-Number.ensures
      ∙ ap (λ n. c.args.parts.now.items ++ part c.in-Some.token.at (forms.Number n) 0 ∷ []) (to_z-of_z w64 c.in-Number.number (search rules)),
)

pub factor-returns-in-Name : goal.factor-returns-in-Name
factor-returns-in-Name t c =
    rw (factor-begun c.args.stop c.args.depth c.args.tokens.now, c.in-Some.ensures, c.in-Name.is) c.named.ensures

pub factor-returns-in-Open : goal.factor-returns-in-Open
factor-returns-in-Open t c =
    rw (factor-begun c.args.stop c.args.depth c.args.tokens.now, c.in-Some.ensures, c.in-Open.is) c.bracketed.ensures

pub factor-returns-in-Close : goal.factor-returns-in-Close
factor-returns-in-Close t c =
    λ h. factor-begun c.args.stop c.args.depth c.args.tokens.now
    ∙ rw c.in-Some.ensures (other c.args.stop (below c.args.stop c.args.depth) c.in-Some.token.at c.in-Some.token.symbol c.in-Some.rest.now c.in-Close.is)

pub factor-returns-then-is_sign : goal.factor-returns-then-is_sign
factor-returns-then-is_sign t c =
    rw (factor-begun c.args.stop c.args.depth c.args.tokens.now, c.in-Some.ensures, c.in-Operator.is, sym c.if-is_sign.ensures) c.signed.ensures

pub factor-returns-else-is_sign : goal.factor-returns-else-is_sign
factor-returns-else-is_sign t c =
    λ h. factor-begun c.args.stop c.args.depth c.args.tokens.now
    ∙ rw (c.in-Some.ensures, c.in-Operator.is, sym c.if-is_sign.ensures) refl
