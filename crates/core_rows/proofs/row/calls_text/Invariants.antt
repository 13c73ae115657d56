use Rattle.core_rows.specs.Hands.{IsHandOf}
use Rattle.core_rows.proofs.row.calls_text.Given as goal

abbrev pub invariant-loop-call : goal.invariant-loop-call
invariant-loop-call l =
    (goal.iterator-loop-call).can_next l.call-iterator
    × (goal.iterator-loop-call).is_finite l.call-iterator
    × IsHandOf l.job l.hand
