use Rattle.std.proofs.Common.{◌≡◌, ◌≤◌, ◌+◌, ◌++◌, drop, length, map}
use Rattle.std.specs.Arc.{arc_value}
use Rattle.hive_model.specs.Enabled.{inputs_in}
use Rattle.hive_model.proofs.scratch.share_into.Given as goal

abbrev pub invariant-loop-handle : goal.invariant-loop-handle
invariant-loop-handle l =
    (map arc_value l.inputs.items ++ inputs_in l.store (drop l.handle-index l.handles) ≡ inputs_in l.store l.handles)
    × (length l.fn.inputs.items + l.fn.inputs.spare ≤ length l.inputs.items + l.inputs.spare)
