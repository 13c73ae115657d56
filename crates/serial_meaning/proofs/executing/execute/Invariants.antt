use Rattle.std.proofs.Common.{map}
use Rattle.std.specs.Arc.{arc_value}
use Rattle.serial_meaning.specs.Evaluation.{bound}
use Rattle.event_laws.proofs.Executions.{IsComputed}
use Rattle.serial_meaning.proofs.executing.execute.Given as goal

abbrev pub invariant-loop-number : goal.invariant-loop-number
invariant-loop-number l =
    IsComputed l.algorithm (map arc_value l.fn.inputs) (map bound l.held.items) (map arc_value l.outputs.items) l.number
