use Rattle.std.proofs.Common.{◌≡◌, ◌++◌, drop}
use Rattle.text_model.specs.Producers.{no_producer}
use Rattle.producer_graph.specs.Lists.{items}
use Rattle.producer_graph.specs.Parts.{taken_by_each}
use Rattle.producer_graph.proofs.inputs.read_inputs.Given as goal

abbrev pub invariant-loop-need : goal.invariant-loop-need
invariant-loop-need l = record {
  unknown : no_producer l.handles (drop l.need-index l.needs) ≡ no_producer l.handles l.needs;
  read : items l.each.items ++ taken_by_each l.handles (drop l.need-index l.needs) ≡ taken_by_each l.handles l.needs;
}
