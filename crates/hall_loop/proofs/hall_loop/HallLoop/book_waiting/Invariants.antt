use Rattle.std.specs.Prelude.{◌≡◌, ◌≤◌, ◌+◌, cond, false}
use Rattle.hall_loop.specs.Beside.{GoesOn, HoldsNothing, IsBeside, deeds}
use Rattle.hive_hall.specs.Pass.{seen}
use Rattle.hall_loop.proofs.hall_loop.HallLoop.book_waiting.Given as goal

abbrev pub invariant-loop-booked : goal.invariant-loop-booked
invariant-loop-booked g l = IsBeside l.fn.hall l.self × GoesOn l.fn.self l.self
    × (HoldsNothing l.fn.hall l.fn.self.pass → HoldsNothing l.fn.hall l.self.pass)
    × (cond l.some 1 0 + deeds l.fn.self.pass ≤ deeds l.self.pass)
    × (l.some ≡ false → seen l.self.pass ≡ seen l.fn.self.pass)
