use Rattle.std.proofs.Common.{◌≡◌, ◌==◌, get_or, false, sym, ap, ◌∙◌, arith}
use Rattle.std.proofs.lemmas.List.{length-drop}
use Rattle.std.proofs.lemmas.Bool.Decides.{nat_tests}
use Rattle.std.proofs.lemmas.Result.{err_from_is_err_and}
use Rattle.text_model.specs.Tokens.{tokens_of}
use Rattle.expr_text.proofs.Lexemes.TokenLists.{with_front, with_front-both, with_front-nothing, with_front-all, tokens_from-space, tokens_from-symbol, tokens_from-refused, tokens_from-end}
use Rattle.expr_text.proofs.symbols.tokens.Goals as goal

pub loop-at-init : goal.loop-at-init
unfolding tokens_of
loop-at-init c = (rw c.new-tokens.ensures.items (with_front-nothing _), omega arith)

pub loop-at-preserved-then-text-at-eq32 : goal.loop-at-preserved-then-text-at-eq32
loop-at-preserved-then-text-at-eq32 c = (
  ap (with_front c.loop-at.tokens.items) (sym (tokens_from-space c.args.text.now c.loop-at.at c.loop-at-test.true c.if-text-at-eq32.true))
      ∙ c.loop-at.invariant.0,
  omega arith,
)

pub returns-in_err-symbol : goal.returns-in_err-symbol
returns-in_err-symbol c =
    let p = err_from_is_err_and c.from_residual.result c.from_residual.ensures.1 in
    let other : (get_or c.args.text.now c.loop-at.at 0 == 32) ≡ false = grind (arith, nat_tests) in
    rw (p.1, p.2) (λ h. sym c.loop-at.invariant.0 ∙ ap (with_front c.loop-at.tokens.items)
    (tokens_from-refused c.args.text.now c.loop-at.at _ c.loop-at-test.true other (rw c.split_at.ensures.back at (c.in_err-symbol.ensures.symbol h))))

pub loop-at-preserved : goal.loop-at-preserved
loop-at-preserved c =
    let text = c.args.text.now in
    let at = c.loop-at.at in
    let other : (get_or text at 0 == 32) ≡ false = grind (arith, nat_tests) in
    let is = rw c.split_at.ensures.back at c.in_ok-symbol.ensures.symbol in
    let len = rw c.split_at.ensures.back at c.in_ok-symbol.ensures.length in
    let step = tokens_from-symbol text at c.in_ok-symbol.symbol c.in_ok-symbol.length c.loop-at-test.true other is len.0 len.1 in (
      rw c.in_ok-push.ensures.items (sym (with_front-both _ _ _) ∙ (ap (with_front c.loop-at.tokens.items) (sym step) ∙ c.loop-at.invariant.0)),
      omega (arith, len.1, length-drop at text),
    )

pub returns : goal.returns
returns c =
    let text = c.args.text.now in
    sym c.loop-at.invariant.0
    ∙ (ap (with_front c.loop-at.tokens.items) (tokens_from-end text c.loop-at.at c.loop-at-test.false) ∙ with_front-all c.loop-at.tokens.items)
