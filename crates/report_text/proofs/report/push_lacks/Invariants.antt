use Rattle.std.proofs.Common.{◌≡◌, ◌++◌, drop, map}
use Rattle.std.specs.List.{flat_map, zip}
use Rattle.text_model.specs.Report.{lacks_at}
use Rattle.hive_model.specs.Same.{texts}
use Rattle.report_text.proofs.report.push_lacks.Given as goal

abbrev pub invariant-loop-index : goal.invariant-loop-index
invariant-loop-index l =
    l.out.items ++ flat_map (lacks_at (texts l.names) l.store) (zip (drop l.index l.algorithms) (drop l.index l.ends))
    ≡ l.fn.out.items ++ flat_map (lacks_at (texts l.names) l.store) (zip l.algorithms l.ends)
