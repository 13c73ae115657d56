use Rattle.std.proofs.Common.{◌≡◌, ◌++◌, ℕ, List, not, drop, find, filter_map}
use Rattle.text_model.specs.Names.{is_among, number_of}
use Rattle.producer_graph.proofs.inputs.read_need.Given as goal

abbrev pub invariant-loop-name : goal.invariant-loop-name
invariant-loop-name l = record {
  unknown : find (λ (name : List ℕ). not (is_among l.handles name)) (drop l.name-index l.need.inputs)
      ≡ find (λ (name : List ℕ). not (is_among l.handles name)) l.need.inputs;
  read : l.inputs.items ++ filter_map (number_of l.handles) (drop l.name-index l.need.inputs) ≡ filter_map (number_of l.handles) l.need.inputs;
}
