use Rattle.std.proofs.Common.{◌≡◌, true, is_some, take}
use Rattle.std.specs.List.{list_all}
use Rattle.whiteboard.proofs.board.first_empty.Given as goal

abbrev pub invariant-loop-slot : goal.invariant-loop-slot
invariant-loop-slot l = list_all is_some (take l.slot l.slots) ≡ true
