use Rattle.std.proofs.Common.{◌≡◌, ◌++◌, drop, map}
use Rattle.std.specs.Arc.{arc_value}
use Rattle.std.specs.List.{zip}
use Rattle.serial_meaning.specs.Evaluation.{bound}
use Rattle.serial_meaning.proofs.executing.bind.Given as goal

abbrev pub invariant-loop-number : goal.invariant-loop-number
invariant-loop-number l =
    map bound l.held.items ++ zip (drop l.number l.handles) (map arc_value (drop l.number l.inputs))
    ≡ zip l.handles (map arc_value l.inputs)
