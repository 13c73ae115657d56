use Rattle.std.proofs.Common.{◌≡◌, take}
use Rattle.control_tree.proofs.building.algorithm_names.Given as goal

abbrev pub invariant-loop-name : goal.invariant-loop-name
invariant-loop-name l = l.names ≡ take l.name-index l.algorithms
