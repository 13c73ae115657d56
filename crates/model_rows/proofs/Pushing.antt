-- One more algorithm at the end.
use Rattle.std.proofs.Common.{List, [], ◌∷◌, ◌++◌}
use Rattle.std.specs.List.{AllByRecursion}
use Rattle.hive_model.specs.Algorithm.{Algorithm}
use Rattle.hive_model.specs.Runnable.{CanExecute}

pub can_push : (xs : List Algorithm) (a : Algorithm) → AllByRecursion CanExecute xs → CanExecute a → AllByRecursion CanExecute (xs ++ a ∷ [])
can_push [] a all can = (can, tt)
can_push (x ∷ xs) a all can = (all.0, can_push xs a all.1 can)
