use Rattle.std.proofs.Common.{◌≡◌, ◌++◌, take}
use Rattle.std.specs.List.{IsDistinct}
use Rattle.hive_model.specs.Same.{same_text}
use Rattle.text_model.specs.Forest.{branch_names}
use Rattle.graph_rows.proofs.forest.are_distinct.Given as goal

abbrev pub invariant-loop-name : goal.invariant-loop-name
invariant-loop-name l = record {
  names : l.names ≡ take l.name-index l.algorithms;
  differ : IsDistinct same_text l.names;
}

abbrev pub invariant-loop-branch : goal.invariant-loop-branch
invariant-loop-branch l = record {
  names : l.names ≡ l.algorithms ++ branch_names (take l.branch-index l.branches);
  differ : IsDistinct same_text l.names;
}
