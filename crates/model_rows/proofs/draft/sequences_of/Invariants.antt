use Rattle.std.specs.List.{AllByRecursion}
use Rattle.hive_model.specs.Runnable.{CanExecute}
use Rattle.model_rows.proofs.draft.sequences_of.Given as goal

abbrev pub invariant-loop-part : goal.invariant-loop-part
invariant-loop-part l = AllByRecursion CanExecute l.algorithms.items
