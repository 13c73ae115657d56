use Rattle.std.proofs.Common.{arith}
use Rattle.hall_loop.proofs.hall_loop.HallLoop.has_room.Goals as goal

pub overflow_mul-few : goal.overflow_mul-few
overflow_mul-few c = omega (arith, c.args.self.now.window.slots_few, c.from-slots.ensures)

pub overflow_add-few : goal.overflow_add-few
overflow_add-few c =
    let w = c.args.self.now.window in
    omega (arith, w.slots_few, w.within, w.few, c.from-slots.ensures)
