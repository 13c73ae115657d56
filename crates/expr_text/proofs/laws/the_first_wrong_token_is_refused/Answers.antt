use Rattle.expr_text.proofs.Lookahead.FirstWrong.{unexpected-refused, deep-refused, unfinished-refused}
use Rattle.expr_text.proofs.laws.the_first_wrong_token_is_refused.Goals as goal

pub returns : goal.returns
returns c = record { unexpected = unexpected-refused; unfinished = unfinished-refused; deep = deep-refused }
