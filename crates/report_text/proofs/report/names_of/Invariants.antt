use Rattle.std.proofs.Common.{◌≡◌, ◌++◌, drop, map}
use Rattle.std.specs.List.{flat_map}
use Rattle.hive_model.specs.declared.algorithm.Raw.{Raw}
use Rattle.hive_model.specs.Valid.{output_names, handle_names}
use Rattle.hive_model.specs.Same.{texts}
use Rattle.report_text.proofs.report.names_of.Given as goal

abbrev pub invariant-loop-raw : goal.invariant-loop-raw
invariant-loop-raw l =
    texts l.names.items ++ map (λ (r : Raw). r.name) (drop l.raw-index l.raw-items) ≡ map (λ (r : Raw). r.name) l.job.raws

abbrev pub invariant-loop-algorithm : goal.invariant-loop-algorithm
invariant-loop-algorithm l =
    texts l.names.items ++ flat_map output_names (drop l.algorithm-index l.algorithm-items) ≡ handle_names l.job
