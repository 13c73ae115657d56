use Rattle.std.proofs.Common.{◌≡◌, drop}
use Rattle.std.specs.Prelude.{max}
use Rattle.clone_pools.specs.Room.{most_nodes}
use Rattle.clone_pools.proofs.room.most_in_outputs.Given as goal

abbrev pub invariant-loop-output : goal.invariant-loop-output
invariant-loop-output l = max l.most (most_nodes (drop l.output-index l.outputs)) ≡ most_nodes l.outputs
