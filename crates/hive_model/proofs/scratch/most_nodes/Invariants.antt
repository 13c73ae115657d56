use Rattle.std.proofs.Common.{◌≤◌, take, length}
use Rattle.std.specs.List.{AllByRecursion}
use Rattle.hive_model.specs.declared.algorithm.Output.{Output}
use Rattle.hive_model.proofs.scratch.most_nodes.Given as goal

abbrev pub invariant-loop-output : goal.invariant-loop-output
invariant-loop-output l = AllByRecursion (λ (o : Output). length o.value ≤ l.most) (take l.output-index l.outputs)
