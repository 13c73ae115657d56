use Rattle.std.specs.Arc.{arc_value}
use Rattle.parts_rows.proofs.Boards.{product-taken}
use Rattle.parts_rows.proofs.slots.put_product.Goals as goal

pub returns-clause-taken : goal.returns-clause-taken
returns-clause-taken c =
    product-taken c.args.board.now c.put.new.self c.args.slot c.args.handle (arc_value c.args.product)
    c.requires.taken c.put.ensures
