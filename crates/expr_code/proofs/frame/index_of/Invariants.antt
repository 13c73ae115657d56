use Rattle.std.proofs.Common.{map}
use Rattle.std.specs.Arc.{arc_value}
use Rattle.std.specs.List.{enumerate_from}
use Rattle.expr_code.proofs.Handles.{IsFurther}
use Rattle.expr_code.proofs.frame.index_of.Given as goal

abbrev pub invariant-loop-index : goal.invariant-loop-index
invariant-loop-index l =
    IsFurther l.handle l.body.inputs (map arc_value l.frame.inputs.now)
    (enumerate_from l.body.first_output (map arc_value l.frame.outputs.now)) l.index
