use Rattle.std.proofs.Common.{length}
use Rattle.action_queue.specs.Passes.{left_of}
use Rattle.hall_loop.proofs.LeftResults.{IsBooking}
use Rattle.hall_loop.proofs.settling.book_left.Given as goal

abbrev pub invariant-loop-done : goal.invariant-loop-done
invariant-loop-done g l = IsBooking l.fn.desk l.desk (left_of l.fn.left) (left_of l.left)

abbrev pub decreases-loop-done : goal.decreases-loop-done
decreases-loop-done g l = length (left_of l.left)
