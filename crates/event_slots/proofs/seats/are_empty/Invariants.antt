use Rattle.std.proofs.Common.{◌≡◌, true, is_none, take}
use Rattle.std.specs.List.{list_all}
use Rattle.event_slots.specs.Slots.{Seat}
use Rattle.event_slots.proofs.seats.are_empty.Given as goal

abbrev pub invariant-loop-seat : goal.invariant-loop-seat
invariant-loop-seat l = list_all (λ (seat : Seat). is_none seat.place) (take l.seat-index l.seats) ≡ true
