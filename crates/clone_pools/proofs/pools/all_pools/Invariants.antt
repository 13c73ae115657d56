use Rattle.std.proofs.Common.{◌≡◌, map, take}
use Rattle.clone_pools.specs.Loans.{opening_pool}
use Rattle.clone_pools.proofs.pools.all_pools.Given as goal

abbrev pub invariant-loop-algorithm : goal.invariant-loop-algorithm
invariant-loop-algorithm l = l.pools.items ≡ map opening_pool (take l.algorithm-index l.algorithms)
