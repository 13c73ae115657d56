use Rattle.std.proofs.Common.{◌≡◌, ◌+◌, length, drop}
use Rattle.std.specs.List.{flat_map}
use Rattle.hive_model.specs.Handles.{output_kinds}
use Rattle.hive_model.proofs.job.count_outputs.Given as goal

abbrev pub invariant-loop-algorithm : goal.invariant-loop-algorithm
invariant-loop-algorithm l =
    l.count + length (flat_map output_kinds (drop l.algorithm-index l.algorithms)) ≡ length (flat_map output_kinds l.algorithms)
