use Rattle.std.specs.List.{AllByRecursion}
use Rattle.hive_model.specs.Runnable.{CanExecute}
use Rattle.model_rows.proofs.sequence.members_of.Given as goal

abbrev pub invariant-loop-word : goal.invariant-loop-word
invariant-loop-word l = AllByRecursion CanExecute l.algorithms.items
