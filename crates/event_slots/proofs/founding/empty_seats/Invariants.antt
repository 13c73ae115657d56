use Rattle.std.proofs.Common.{◌≡◌, length}
use Rattle.std.specs.List.{AllByRecursion}
use Rattle.event_slots.specs.Seats.{IsVacantFor}
use Rattle.event_slots.proofs.founding.empty_seats.Given as goal

abbrev pub invariant-loop-seat : goal.invariant-loop-seat
invariant-loop-seat l = record {
  count : length l.seats.items ≡ l._seat;
  seats : AllByRecursion (IsVacantFor l.job) l.seats.items;
}
