use Rattle.std.proofs.Common.{◌≡◌, ◌<◌, length, drop}
use Rattle.std.specs.List.{flat_map, slice_get}
use Rattle.hive_model.specs.Handles.{output_kinds}
use Rattle.hive_model.proofs.job.kind_of_output.Given as goal

abbrev pub invariant-loop-algorithm : goal.invariant-loop-algorithm
invariant-loop-algorithm l =
    (l.rest < length (flat_map output_kinds (drop l.algorithm-index l.algorithms)))
    × (slice_get (flat_map output_kinds (drop l.algorithm-index l.algorithms)) l.rest
    ≡ slice_get (flat_map output_kinds l.algorithms) l.place)
