use Rattle.std.proofs.Common.{◌≡◌, ◌++◌, drop}
use Rattle.std.specs.List.{flat_map}
use Rattle.job_build.specs.Kinds.{output_kinds}
use Rattle.job_build.proofs.kinds.push_algorithms.Given as goal

abbrev pub invariant-loop-algorithm : goal.invariant-loop-algorithm
invariant-loop-algorithm l =
    l.kinds.items ++ flat_map output_kinds (drop l.algorithm-index l.algorithms) ≡ l.fn.kinds.items ++ flat_map output_kinds l.algorithms
