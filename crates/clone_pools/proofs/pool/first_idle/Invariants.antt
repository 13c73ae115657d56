use Rattle.std.proofs.Common.{◌≡◌, false, is_none, map, take}
use Rattle.std.specs.List.{list_any}
use Rattle.clone_pools.specs.Instances.{place_of}
use Rattle.clone_pools.proofs.pool.first_idle.Given as goal

abbrev pub invariant-loop-clone : goal.invariant-loop-clone
invariant-loop-clone l = list_any is_none (map place_of (take l.clone l.instances)) ≡ false
