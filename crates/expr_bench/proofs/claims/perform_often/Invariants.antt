use Rattle.std.specs.Arc.{arc_value}
use Rattle.hive_model.specs.Scratch.{IsMadeFor}
use Rattle.expr_bench.proofs.claims.perform_often.Given as goal

abbrev pub invariant-loop-time : goal.invariant-loop-time
invariant-loop-time g l = IsMadeFor (arc_value l.body) l.lent.scratch
