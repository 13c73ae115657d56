use Rattle.std.proofs.Common.{sym, ◌∙◌}
use Rattle.event_records.proofs.PlainCells.{cells-plain}
use Rattle.event_records.proofs.cells.plain_cells.Goals as goal

pub returns : goal.returns
returns c = c.in_ok-cut_at.ensures ∙ sym (cells-plain c.args.content.now c.requires.some c.requires.text c.requires.plain)
