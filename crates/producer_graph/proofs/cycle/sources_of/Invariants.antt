use Rattle.std.proofs.Common.{◌≡◌, ◌++◌, drop}
use Rattle.producer_graph.specs.Sources.{producers_in}
use Rattle.producer_graph.proofs.cycle.sources_of.Given as goal

abbrev pub invariant-loop-handle : goal.invariant-loop-handle
invariant-loop-handle l = l.sources.items ++ producers_in l.producers (drop l.handle-index l.inputs) ≡ producers_in l.producers l.inputs
