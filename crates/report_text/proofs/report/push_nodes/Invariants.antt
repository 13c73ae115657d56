use Rattle.std.proofs.Common.{◌≡◌, ◌++◌, drop}
use Rattle.std.specs.List.{flat_map, zip}
use Rattle.text_model.specs.Report.{node_line}
use Rattle.report_text.proofs.report.push_nodes.Given as goal

abbrev pub invariant-loop-index : goal.invariant-loop-index
invariant-loop-index l =
    l.out.items ++ flat_map node_line (zip (drop l.index l.sequences) (drop l.index l.decisions))
    ≡ l.fn.out.items ++ flat_map node_line (zip l.sequences l.decisions)
