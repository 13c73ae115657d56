-- What a job must have for its events to have a computable result: each expression is the nodes of a tree, and the number of
-- each output of an algorithm fits its place. An execution on a stack asks that the nodes are in a tree's order. Every valid
-- job has both.
use Rattle.std.specs.Prelude.{◌≡◌, ◌≤◌, List, length, IsSome, MatchOption}
use Rattle.std.specs.List.{AllByRecursion}
use Rattle.hive_model.specs.Algorithm.{Algorithm}
use Rattle.hive_model.specs.Job.{Job}
use Rattle.hive_model.specs.Tree.{Tree, nodes_of, tree_of}
use Rattle.hive_model.specs.declared.algorithm.Output.{Output}
use Rattle.hive_model.specs.declared.expr.Node.{Node}
use Rattle.hive_model.specs.declared.limits.TheConstants.{MOST_HANDLES}

abbrev pub HasTree : List Node → Type 0
HasTree nodes = IsSome (tree_of nodes)

pub record CanExecute (a : Algorithm) : Type 0 where
  pub few : length a.outputs ≤ MOST_HANDLES
  pub outputs : AllByRecursion (λ (o : Output). HasTree o.value) a.outputs
  pub filter : MatchOption a.filter (Unit {0}) HasTree

abbrev pub IsRunnable : Job → Type 0
IsRunnable job = AllByRecursion CanExecute job.algorithms

-- left operand, right operand, parent, and the root last
abbrev pub AreInOrder : List Node → Type 0
AreInOrder nodes = (t : Tree) × (nodes ≡ nodes_of t)

pub record CanPerform (a : Algorithm) : Type 0 where
  pub few : length a.outputs ≤ MOST_HANDLES
  pub outputs : AllByRecursion (λ (o : Output). AreInOrder o.value) a.outputs
  pub filter : MatchOption a.filter (Unit {0}) AreInOrder
