use Rattle.std.proofs.Common.{◌≡◌, None, map, replicate}
use Rattle.hive_model.specs.Store.{shown}
use Rattle.hive_model.proofs.store.Store.with_room.Given as goal

abbrev pub invariant-loop-handle : goal.invariant-loop-handle
invariant-loop-handle l = map shown l.places.items ≡ replicate l._handle None
