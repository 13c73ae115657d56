use Rattle.std.proofs.Common.{◌≡◌, map, take}
use Rattle.decision_nodes.specs.Standing.{fresh}
use Rattle.decision_nodes.proofs.founding.copy_nodes.Given as goal

abbrev pub invariant-loop-sequence : goal.invariant-loop-sequence
invariant-loop-sequence l = l.nodes.items ≡ map fresh (take l.sequence-index l.sequences)
