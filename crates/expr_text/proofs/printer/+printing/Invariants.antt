-- A part is less high than what it is a part of.
use Rattle.std.proofs.Common.{◌+◌, ◌*◌}
use Rattle.expr_text.proofs.printer.+printing.Given as goal

abbrev pub decreases-show : goal.decreases-show
decreases-show l = 2 * l.depth

abbrev pub decreases-show_operand : goal.decreases-show_operand
decreases-show_operand l = 2 * l.depth + 1

abbrev pub decreases-show_call : goal.decreases-show_call
decreases-show_call l = 2 * l.depth + 1
