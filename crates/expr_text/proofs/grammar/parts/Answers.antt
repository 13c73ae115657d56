use Rattle.std.proofs.lemmas.Result.{err_from_is_err_and}
use Rattle.expr_text.proofs.Parsing.Readings.{written-refused, written-end, written-more}
use Rattle.expr_text.proofs.grammar.parts.Goals as goal

pub returns-in_err-rest : goal.returns-in_err-rest
returns-in_err-rest c =
    let p = err_from_is_err_and c.from_residual.result c.from_residual.ensures.1 in
    rw (p.1, p.2) (λ h. written-refused _ _ _ _ (c.in_err-rest.ensures h))

pub returns-in-Some : goal.returns-in-Some
returns-in-Some c =
    let read = c.in_ok-rest.ensures in
    λ h. written-more _ _ _ _ read.0 _ _ read.1 c.in-Some.ensures

pub returns-in-None : goal.returns-in-None
returns-in-None c =
    let read = c.in_ok-rest.ensures in
    (read.0, written-end _ _ _ _ read.0 read.1 c.in-None.ensures, rw c.new-parts.ensures.items at read.2)
