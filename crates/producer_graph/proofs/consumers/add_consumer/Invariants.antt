use Rattle.std.proofs.Common.{◌≡◌, length, drop}
use Rattle.producer_graph.specs.Lists.{items}
use Rattle.producer_graph.specs.Takers.{with_consumer}
use Rattle.producer_graph.proofs.consumers.add_consumer.Given as goal

abbrev pub invariant-loop-handle : goal.invariant-loop-handle
invariant-loop-handle l = record {
  size : length l.consumers.items ≡ length l.fn.consumers.items;
  added : with_consumer (items l.consumers.items) (drop l.handle-index l.handles) l.number ≡ with_consumer (items l.fn.consumers.items) l.handles l.number;
}
