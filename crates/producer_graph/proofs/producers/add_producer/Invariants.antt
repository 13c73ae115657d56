use Rattle.std.proofs.Common.{◌≡◌, ◌++◌, replicate}
use Rattle.producer_graph.proofs.producers.add_producer.Given as goal

abbrev pub invariant-loop-handle : goal.invariant-loop-handle
invariant-loop-handle l = l.producers.items ≡ l.fn.producers.items ++ replicate l._handle l.producer
