use Rattle.std.proofs.Common.{◌≡◌, ◌++◌, map, drop}
use Rattle.producer_graph.specs.Lists.{items}
use Rattle.producer_graph.specs.Sources.{producers_in}
use Rattle.producer_graph.proofs.cycle.sources_of_each.Given as goal

abbrev pub invariant-loop-of_one : goal.invariant-loop-of_one
invariant-loop-of_one l =
    items l.each.items ++ map (producers_in l.producers) (items (drop l.of_one-index l.inputs)) ≡ map (producers_in l.producers) (items l.inputs)
