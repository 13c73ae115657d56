use Rattle.std.proofs.Common.{◌≡◌, ◌++◌, drop, map}
use Rattle.hive_model.specs.declared.algorithm.Raw.{Raw}
use Rattle.job_build.proofs.kinds.push_raws.Given as goal

abbrev pub invariant-loop-raw : goal.invariant-loop-raw
invariant-loop-raw l =
    l.kinds.items ++ map (λ (r : Raw). r.kind) (drop l.raw-index l.raws) ≡ l.fn.kinds.items ++ map (λ (r : Raw). r.kind) l.raws
