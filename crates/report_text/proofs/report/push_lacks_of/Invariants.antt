use Rattle.std.proofs.Common.{◌≡◌, ◌++◌, drop, map}
use Rattle.std.specs.List.{flat_map}
use Rattle.text_model.specs.Report.{lack_line}
use Rattle.hive_model.specs.Same.{texts}
use Rattle.report_text.proofs.report.push_lacks_of.Given as goal

abbrev pub invariant-loop-input : goal.invariant-loop-input
invariant-loop-input l =
    l.out.items ++ flat_map (lack_line (texts l.names) l.store l.algorithm) (drop l.input-index l.input-items)
    ≡ l.fn.out.items ++ flat_map (lack_line (texts l.names) l.store l.algorithm) l.algorithm.inputs
