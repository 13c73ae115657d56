use Rattle.std.proofs.Common.{◌≡◌, ◌≤◌, [], map}
use Rattle.std.specs.Arc.{arc_value}
use Rattle.event_laws.proofs.Executions.{IsComputed}
use Rattle.hive_model.specs.Execution.{seen}
use Rattle.expr_code.specs.Stack.{room}
use Rattle.expr_code.proofs.executing.execute.Given as goal

abbrev pub invariant-loop-number : goal.invariant-loop-number
invariant-loop-number l =
    IsComputed l.body (map arc_value l.fn.inputs)
    (seen l.body (map arc_value l.fn.inputs) (map arc_value l.outputs.items)) (map arc_value l.outputs.items) l.number
    × (l.stack.items ≡ [])
    × (room l.fn.stack ≤ room l.stack)
