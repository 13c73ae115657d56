use Rattle.parts_rows.proofs.Boards.{emptied-taken}
use Rattle.parts_rows.proofs.slots.recycle.Goals as goal

pub returns : goal.returns
returns c =
    emptied-taken c.args.handles c.args.board.now c.recycle-store.new.self c.args.taken.now.items c.args.slot
    c.from.result c.from.ensures c.requires.board c.recycle-store.ensures.slots
