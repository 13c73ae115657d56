use Rattle.hive_model.specs.Runnable.{CanPerform}
use Rattle.model_rows.proofs.algorithm.algorithm_of.Given as goal

abbrev pub invariant-loop-part : goal.invariant-loop-part
invariant-loop-part l = CanPerform l.algorithm
