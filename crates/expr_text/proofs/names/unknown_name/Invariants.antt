-- The tokens so far have no unknown name.
use Rattle.std.proofs.Common.{◌≡◌, length}
use Rattle.text_model.specs.ExprText.{unknown_name}
use Rattle.expr_text.proofs.names.unknown_name.Given as goal

abbrev pub invariant-tokens : goal.invariant-tokens
invariant-tokens l = unknown_name l.text l.names l.left ≡ unknown_name l.text l.names l.tokens

abbrev pub decreases-tokens : goal.decreases-tokens
decreases-tokens l = length l.left
