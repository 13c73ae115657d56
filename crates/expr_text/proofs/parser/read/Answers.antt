use Rattle.std.proofs.Common.{sym, ◌∙◌}
use Rattle.std.proofs.lemmas.Result.{err_from_is_err_and}
use Rattle.expr_text.proofs.Building.Phases.{expr_of-token, expr_of-grammar, expr_of-unknown, expr_of-known}
use Rattle.expr_text.proofs.parser.read.Goals as goal

pub returns-in_err-tokens-clause-meaning : goal.returns-in_err-tokens-clause-meaning
returns-in_err-tokens-clause-meaning c =
    let p = err_from_is_err_and c.from_residual.result c.from_residual.ensures.1 in
    rw (p.1, p.2) (λ h. expr_of-token c.args.text.now c.args.names.now c.args.wanted _ c.requires (c.in_err-tokens.ensures h))

pub returns-in_err-parts-clause-meaning : goal.returns-in_err-parts-clause-meaning
returns-in_err-parts-clause-meaning c =
    let p = err_from_is_err_and c.from_residual-in_err-parts.result c.from_residual-in_err-parts.ensures.1 in
    rw (p.1, p.2) (λ h. expr_of-grammar c.args.text.now c.args.names.now c.args.wanted _ _ c.requires c.in_ok-tokens.ensures (rw c.as_slice-tokens.ensures.value at (c.in_err-parts.ensures h)))

pub returns-in-Some-clause-meaning : goal.returns-in-Some-clause-meaning
returns-in-Some-clause-meaning c =
    let read = rw c.as_slice-tokens.ensures.value at c.in_ok-parts.ensures in
    let unknown = rw c.as_slice-tokens.ensures.value at c.in-Some.ensures in
    λ h. expr_of-unknown c.args.text.now c.args.names.now c.args.wanted _ read.0 _ c.requires c.in_ok-tokens.ensures read.1 (sym unknown)

pub returns-clause-meaning : goal.returns-clause-meaning
returns-clause-meaning c =
    let read = rw c.as_slice-tokens.ensures.value at c.in_ok-parts.ensures in
    let known = rw c.as_slice-tokens.ensures.value at c.in_default.ensures in
    rw (expr_of-known c.args.text.now c.args.names.now c.args.wanted _ read.0 c.requires c.in_ok-tokens.ensures read.1 (sym known))
    (c.nodes.ensures.meaning read.0 (c.as_slice.ensures.value ∙ read.2))

pub returns-clause-valid : goal.returns-clause-valid
returns-clause-valid c = c.nodes.ensures.valid c.in_ok-parts.ensures.0 (c.as_slice.ensures.value ∙ c.in_ok-parts.ensures.2)
