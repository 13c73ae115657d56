use Rattle.std.proofs.Common.{◌≡◌, [], replicate}
use Rattle.decision_nodes.specs.Index.{items_of}
use Rattle.decision_nodes.proofs.edge.Places.new.Given as goal

abbrev pub invariant-loop-number : goal.invariant-loop-number
invariant-loop-number l = items_of l.lists.items ≡ replicate l._number []
