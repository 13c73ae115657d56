-- The tokens so far, and those of the bytes from `at` on, are those of the text.
use Rattle.std.proofs.Common.{◌≡◌, ◌≤◌, ◌-◌, length, drop}
use Rattle.text_model.specs.Tokens.{tokens_from, tokens_of}
use Rattle.expr_text.proofs.Lexemes.TokenLists.{with_front}
use Rattle.expr_text.proofs.symbols.tokens.Given as goal

abbrev pub invariant-loop-at : goal.invariant-loop-at
invariant-loop-at l =
    (with_front l.tokens.items (tokens_from l.at 0 (drop l.at l.text)) ≡ tokens_of l.text) × (l.at ≤ length l.text)

abbrev pub decreases-loop-at : goal.decreases-loop-at
decreases-loop-at l = length l.text - l.at
