use Rattle.producer_graph.proofs.Pushing.{IsListed}
use Rattle.producer_graph.specs.Lists.{items}
use Rattle.producer_graph.proofs.consumers.list_consumers.Given as goal

abbrev pub invariant-loop-number : goal.invariant-loop-number
invariant-loop-number l = IsListed l.count (items l.inputs) l.number (items l.consumers.items)
