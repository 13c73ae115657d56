use Rattle.std.proofs.Common.{◌≡◌, true, take}
use Rattle.std.specs.List.{list_all}
use Rattle.event_slots.specs.Seats.{is_seated}
use Rattle.event_slots.proofs.seats.are_full.Given as goal

abbrev pub invariant-loop-seat : goal.invariant-loop-seat
invariant-loop-seat l = list_all is_seated (take l.seat-index l.seats) ≡ true
