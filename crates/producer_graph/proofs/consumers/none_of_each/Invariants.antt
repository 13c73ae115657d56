use Rattle.std.proofs.Common.{◌≡◌, [], replicate}
use Rattle.producer_graph.specs.Lists.{items}
use Rattle.producer_graph.proofs.consumers.none_of_each.Given as goal

abbrev pub invariant-loop-handle : goal.invariant-loop-handle
invariant-loop-handle l = items l.each.items ≡ replicate l._handle []
