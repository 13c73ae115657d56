use Rattle.std.proofs.Common.{◌==◌, ℕ, ap, ◌∙◌}
use Rattle.event_records.proofs.PlainCells.{none-other}
use Rattle.event_records.proofs.line.are_printable.Goals as goal

pub returns : goal.returns
returns c = ap (λ (n : ℕ). n == 0) c.count_others.ensures ∙ none-other c.args.held.now
