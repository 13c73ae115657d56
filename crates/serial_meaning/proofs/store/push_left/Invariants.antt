use Rattle.std.proofs.Common.{◌≡◌, ◌++◌, drop, map}
use Rattle.std.specs.List.{enumerate_from, flat_map}
use Rattle.hive_model.specs.Results.{left_at, left_by}
use Rattle.hive_model.specs.Store.{shown}
use Rattle.serial_meaning.proofs.store.push_left.Given as goal

abbrev pub invariant-loop-number : goal.invariant-loop-number
invariant-loop-number l =
    map shown l.places.items ++ flat_map (left_at l.ran) (enumerate_from l.number (drop l.number l.algorithms))
    ≡ map shown l.fn.places.items ++ left_by l.algorithms l.ran
