use Rattle.expr_text.proofs.Parsing.Sound.{read-rules}
use Rattle.expr_text.proofs.Parsing.Complete.{rules-read}
use Rattle.expr_text.proofs.laws.reading_is_the_grammar.Goals as goal

pub returns : goal.returns
returns c = record { read = rules-read; follows = read-rules }
