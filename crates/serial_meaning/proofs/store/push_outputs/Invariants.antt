use Rattle.std.proofs.Common.{◌≡◌, ◌++◌, map, slice_get}
use Rattle.std.specs.Arc.{arc_value}
use Rattle.std.specs.List.{range_with_len}
use Rattle.hive_model.specs.Store.{shown}
use Rattle.serial_meaning.proofs.store.push_outputs.Given as goal

abbrev pub invariant-loop-number : goal.invariant-loop-number
invariant-loop-number l =
    map shown l.places.items ≡ map shown l.fn.places.items ++ map (slice_get (map arc_value l.outputs))
    (range_with_len 0 l.number)
