use Rattle.std.proofs.Common.{◌≡◌, true, take}
use Rattle.std.specs.List.{list_all}
use Rattle.clone_pools.specs.Units.{has_left}
use Rattle.clone_pools.proofs.units.has_units.Given as goal

abbrev pub invariant-loop-resource : goal.invariant-loop-resource
invariant-loop-resource l = list_all (has_left l.left) (take l.resource-index l.resources) ≡ true
