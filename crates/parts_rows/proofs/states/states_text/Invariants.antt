use Rattle.parts_rows.specs.Following.{Follows}
use Rattle.parts_rows.proofs.states.states_text.Given as goal

abbrev pub invariant-loop-call : goal.invariant-loop-call
invariant-loop-call l =
    (goal.iterator-loop-call).can_next l.call-iterator
    × (goal.iterator-loop-call).is_finite l.call-iterator
    × Follows l.job l.table l.arrived.items
