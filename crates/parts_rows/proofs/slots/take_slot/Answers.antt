use Rattle.parts_rows.proofs.Boards.{store-taken}
use Rattle.parts_rows.proofs.slots.take_slot.Goals as goal

pub returns-in-Ok : goal.returns-in-Ok
returns-in-Ok c =
    store-taken c.args.handles c.args.board.now c.take_slot.new.self c.args.taken.now.items c.in-Ok.slot
    c.from.result c.args.room c.from.ensures c.requires.board c.in-Ok.ensures.taken.1
