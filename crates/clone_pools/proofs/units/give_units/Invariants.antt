use Rattle.std.proofs.Common.{◌≡◌, ℕ, ◌+◌, length, take}
use Rattle.std.specs.Prelude.{slice_index}
use Rattle.clone_pools.specs.Units.{named}
use Rattle.clone_pools.proofs.units.give_units.Given as goal

abbrev pub invariant-loop-resource : goal.invariant-loop-resource
invariant-loop-resource l = record {
  lengths : length l.left.items ≡ length l.fn.left.items;
  units : (r : ℕ) → slice_index l.left.items r ≡ slice_index l.fn.left.items r + named r (take l.resource-index l.resources);
}
