use Rattle.std.proofs.Common.{◌≡◌, ◌≤◌, None, map, replicate}
use Rattle.std.specs.Prelude.{All}
use Rattle.clone_pools.specs.Instances.{IsKept, place_of}
use Rattle.clone_pools.proofs.pool.idle_instances.Given as goal

abbrev pub invariant-loop-instance : goal.invariant-loop-instance
invariant-loop-instance l = record {
  within : l._instance ≤ l.count;
  places : map place_of l.instances.items ≡ replicate l._instance None;
  kept : All (IsKept l.room) l.instances.items;
}
