use Rattle.parts_rows.specs.Settling.{IsForestOf}
use Rattle.parts_rows.proofs.nodes.nodes_text.Given as goal

abbrev pub invariant-loop-call : goal.invariant-loop-call
invariant-loop-call l =
    (goal.iterator-loop-call).can_next l.call-iterator
    × (goal.iterator-loop-call).is_finite l.call-iterator
    × IsForestOf l.job l.table l.outcomes.items
