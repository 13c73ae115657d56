-- The grammar's functions recurse to fewer open brackets and signs, and at one depth from an expression down to a factor.
use Rattle.std.proofs.Common.{◌≡◌, ℕ, ◌+◌, ◌-◌, ◌*◌, ◌++◌}
use Rattle.text_model.specs.Grammar.{arguments, expr, factor, further, grouped, operand, row}
use Rattle.text_model.specs.Written.{Written, Operands}
use Rattle.text_model.specs.declared.token.Level.{Level}
use Rattle.text_model.specs.declared.token.Level.TheVariants.{Compare, Sum, Product}
use Rattle.expr_text.specs.Parts.{count, postfix, postfix_all}
use Rattle.expr_text.proofs.grammar.+grammar.Given as goal

-- how far a level is above a factor
abbrev pub rank : Level → ℕ
rank Product = 0
rank Sum = 2
rank Compare = 4

abbrev pub decreases-factor : goal.decreases-factor
decreases-factor l = 10 * l.depth + 1

abbrev pub decreases-operand : goal.decreases-operand
decreases-operand l = 10 * l.depth + rank l.level + 2

abbrev pub decreases-row : goal.decreases-row
decreases-row l = 10 * l.depth + rank l.level + 3

abbrev pub decreases-arguments : goal.decreases-arguments
decreases-arguments l = 10 * l.depth + 8

abbrev pub decreases-signed : goal.decreases-signed
decreases-signed l = 10 * l.depth

abbrev pub decreases-bracketed : goal.decreases-bracketed
decreases-bracketed l = 10 * l.depth

abbrev pub decreases-named : goal.decreases-named
decreases-named l = 10 * l.depth

abbrev pub invariant-row-loop-turn : goal.invariant-row-loop-turn
invariant-row-loop-turn l =
    (left : Written)
    × (row l.level (operand l.level (factor l.stop l.depth)) l.fn.tokens ≡ grouped l.level (operand l.level (factor l.stop l.depth)) (l.turn-end - l.turn) left l.rest)
    × (l.parts.items ≡ l.fn.parts.items ++ postfix left)

abbrev pub invariant-arguments-loop-turn : goal.invariant-arguments-loop-turn
invariant-arguments-loop-turn l =
    (before : Operands)
    × (arguments (expr (factor l.stop l.depth)) l.fn.tokens ≡ further (expr (factor l.stop l.depth)) (l.turn-end - l.turn) before l.rest)
    × (l.parts.items ≡ l.fn.parts.items ++ postfix_all before)
    × (l.operands ≡ count before)
    × (l.operands ≡ l.turn + 1)
