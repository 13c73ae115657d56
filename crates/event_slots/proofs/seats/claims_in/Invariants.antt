use Rattle.std.proofs.Common.{◌≡◌, ◌*◌, ◌≤◌, take}
use Rattle.std.specs.List.{sum_by}
use Rattle.event_slots.specs.Seats.{seated_claims}
use Rattle.event_slots.proofs.seats.claims_in.Given as goal

abbrev pub invariant-loop-seat : goal.invariant-loop-seat
invariant-loop-seat l =
    (l.claims ≡ sum_by seated_claims (take l.seat-index l.seats)) × (l.claims ≤ 65535 * l.seat-index)
