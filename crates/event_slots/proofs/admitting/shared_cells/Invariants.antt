use Rattle.std.proofs.Common.{◌≡◌, map, take}
use Rattle.hive_model.specs.Store.{shown}
use Rattle.event_slots.proofs.admitting.shared_cells.Given as goal

abbrev pub invariant-loop-cell : goal.invariant-loop-cell
invariant-loop-cell l = map shown l.shared.items ≡ take l.cell-index l.cells
