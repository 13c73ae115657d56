use Rattle.std.proofs.Common.{IsTrue, ◌↔◌, ◌∙◌, ap, arith, length, subst}
use Rattle.event_loop.proofs.Rooms.{asks, busy-count, room-asked}
use Rattle.event_loop.proofs.event_loop.EventLoop.has_room.Goals as goal
use Rattle.event_loop.specs.Loop.{HasRoom, LoopState}

pub overflow_sub-busy : goal.overflow_sub-busy
overflow_sub-busy c =
    let all = busy-count _ _ _ _ c.self.invariant.running in
    omega (arith, all, c.from.ensures, ap length c.admitted.ensures.records)

pub returns-clause-room : goal.returns-clause-room
returns-clause-room c =
    let it = c.self.inside in
    let n = length c.admitted.result.now in
    subst (λ (x : LoopState).
    IsTrue (asks it.closed n c.from.result it.handed c.from-slots.result) ↔ HasRoom x) c.self.view_is
    (room-asked _ _ _ _ _ n c.from.result c.from-slots.result c.self.invariant
    (ap length c.admitted.ensures.records)
    c.from.ensures (c.from-slots.ensures ∙ c.slots.ensures.slots))
