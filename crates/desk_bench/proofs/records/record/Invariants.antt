use Rattle.std.proofs.Common.{take}
use Rattle.hive_model.specs.Fits.{AreCellsOf}
use Rattle.desk_bench.proofs.records.record.Given as goal

abbrev pub invariant-loop-raw : goal.invariant-loop-raw
invariant-loop-raw l = AreCellsOf (take l.raw-index l.raw-items) l.cells.items
