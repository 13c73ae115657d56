use Rattle.parts_rows.specs.Taken.{IsBoardOf}
use Rattle.parts_rows.proofs.slots.calls_text.Given as goal

abbrev pub invariant-loop-call : goal.invariant-loop-call
invariant-loop-call l =
    (goal.iterator-loop-call).can_next l.call-iterator
    × (goal.iterator-loop-call).is_finite l.call-iterator
    × IsBoardOf l.handles l.board l.taken.items
