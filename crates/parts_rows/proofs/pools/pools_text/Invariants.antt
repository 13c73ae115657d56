use Rattle.parts_rows.specs.Rooms.{ArePoolsOf}
use Rattle.parts_rows.proofs.pools.pools_text.Given as goal

abbrev pub invariant-loop-call : goal.invariant-loop-call
invariant-loop-call l =
    (goal.iterator-loop-call).can_next l.call-iterator
    × (goal.iterator-loop-call).is_finite l.call-iterator
    × ArePoolsOf l.job l.pools
