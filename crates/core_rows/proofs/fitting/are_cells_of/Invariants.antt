use Rattle.std.proofs.Common.{drop}
use Rattle.hive_model.specs.Fits.{AreCellsOf}
use Rattle.core_rows.proofs.fitting.are_cells_of.Given as goal

abbrev pub invariant-loop-index : goal.invariant-loop-index
invariant-loop-index l = AreCellsOf (drop l.index l.raws) (drop l.index l.cells) → AreCellsOf l.raws l.cells
