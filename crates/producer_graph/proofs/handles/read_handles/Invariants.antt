use Rattle.std.proofs.Common.{◌≡◌, ◌++◌, take, drop}
use Rattle.std.specs.List.{flat_map}
use Rattle.text_model.specs.Producers.{Need, handles_of, two_producers}
use Rattle.producer_graph.specs.Parts.{twice_behind}
use Rattle.producer_graph.proofs.handles.read_handles.Given as goal

abbrev pub invariant-loop-need : goal.invariant-loop-need
invariant-loop-need l = record {
  read : l.names ++ flat_map (λ (a : Need). a.outputs) (drop l.need-index l.needs) ≡ handles_of l.raws l.needs;
  twice : twice_behind l.names (flat_map (λ (a : Need). a.outputs) (drop l.need-index l.needs)) ≡ two_producers (handles_of l.raws l.needs);
}
