use Rattle.hive_workers.specs.Working.{IsBooking}
use Rattle.hive_workers.proofs.booking.book_waiting.Given as goal

abbrev pub invariant-loop-booked : goal.invariant-loop-booked
invariant-loop-booked g l = IsBooking l.hall l.fn.pass l.fn.tally l._booked l.tally l.pass
