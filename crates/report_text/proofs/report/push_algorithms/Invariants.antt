use Rattle.std.proofs.Common.{◌≡◌, ◌++◌, drop}
use Rattle.std.specs.List.{flat_map, zip}
use Rattle.text_model.specs.Report.{alg_line}
use Rattle.report_text.proofs.report.push_algorithms.Given as goal

abbrev pub invariant-loop-index : goal.invariant-loop-index
invariant-loop-index l =
    l.out.items ++ flat_map alg_line (zip (drop l.index l.algorithms) (drop l.index l.ends))
    ≡ l.fn.out.items ++ flat_map alg_line (zip l.algorithms l.ends)
