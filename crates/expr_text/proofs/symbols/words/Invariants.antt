-- The bytes so far belong to the front.
use Rattle.std.proofs.Common.{◌≡◌, ◌+◌, drop}
use Rattle.text_model.specs.Tokens.{is_word}
use Rattle.std.specs.List.{prefix_len}
use Rattle.expr_text.proofs.symbols.words.Given as goal

abbrev pub invariant-loop-count : goal.invariant-loop-count
invariant-loop-count l = l.count + prefix_len is_word (drop l.count l.bytes) ≡ prefix_len is_word l.bytes
