use Rattle.std.proofs.Common.{◌<◌, length, arith}
use Rattle.core_rows.proofs.CellByCell.{cells-more}
use Rattle.core_rows.proofs.fitting.are_cells_of.Goals as goal

pub loop-index-preserved : goal.loop-index-preserved
loop-index-preserved c =
    let within : c.loop-index.index < length c.args.cells.now =
    omega (arith, c.loop-index-test.true, c.if-raws-cells.false) in
    λ rest. c.loop-index.invariant (cells-more c.args.raws.now c.args.cells.now c.loop-index.index
    c.index-raws-index.result c.index-cells-index.result c.loop-index-test.true within c.index-raws-index.is
    c.index-cells-index.is (c.is_cell_of.ensures c.if-not-is_cell_of.false) rest)
