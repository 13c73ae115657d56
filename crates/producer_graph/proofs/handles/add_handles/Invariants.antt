use Rattle.std.proofs.Common.{◌≡◌, ◌++◌, ℕ, List, take, drop}
use Rattle.producer_graph.specs.Parts.{twice_behind}
use Rattle.producer_graph.proofs.handles.add_handles.Given as goal

abbrev pub invariant-loop-handle : goal.invariant-loop-handle
invariant-loop-handle l = record {
  added : l.names ≡ l.fn.names ++ take l.handle-index l.handles;
  twice : (later : List (List ℕ)) → twice_behind l.fn.names (l.handles ++ later) ≡ twice_behind l.names (drop l.handle-index l.handles ++ later);
}
