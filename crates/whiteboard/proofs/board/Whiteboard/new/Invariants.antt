use Rattle.std.proofs.Common.{◌≡◌, ◌≤◌, None, replicate}
use Rattle.whiteboard.proofs.board.Whiteboard.new.Given as goal

abbrev pub invariant-loop-slot : goal.invariant-loop-slot
invariant-loop-slot l = (l.empty.items ≡ replicate l._slot None) × (l._slot ≤ l.slots)
