use Rattle.std.proofs.Common.{◌≡◌, ◌++◌, map}
use Rattle.std.specs.List.{range_with_len}
use Rattle.hive_model.specs.Enabled.{product_in}
use Rattle.hive_model.specs.Store.{shown}
use Rattle.serial_meaning.proofs.store.push_cells.Given as goal

abbrev pub invariant-loop-number : goal.invariant-loop-number
invariant-loop-number l =
    map shown l.places.items ≡ map shown l.fn.places.items ++ map (product_in l.cells) (range_with_len 0 l.number)
