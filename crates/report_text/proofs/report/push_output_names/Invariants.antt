use Rattle.std.proofs.Common.{◌≡◌, ◌++◌, drop, map}
use Rattle.hive_model.specs.declared.algorithm.Output.{Output}
use Rattle.hive_model.specs.Valid.{output_names}
use Rattle.hive_model.specs.Same.{texts}
use Rattle.report_text.proofs.report.push_output_names.Given as goal

abbrev pub invariant-loop-output : goal.invariant-loop-output
invariant-loop-output l =
    texts l.names.items ++ map (λ (o : Output). o.name) (drop l.output-index l.output-items)
    ≡ texts l.fn.names.items ++ output_names l.algorithm
