use Rattle.std.proofs.Common.{◌≡◌, take}
use Rattle.csv.specs.Records.{fields_of}
use Rattle.hive_model.specs.Same.{texts}
use Rattle.event_records.proofs.cells.cells_in.Given as goal

abbrev pub invariant-loop-index : goal.invariant-loop-index
invariant-loop-index l = texts l.cells.items ≡ take l.index (fields_of l.row)
