use Rattle.std.proofs.Common.{◌≡◌, ◌+◌, ◌++◌, ◌≤◌, Ok, drop, length}
use Rattle.std.specs.List.{flat_map}
use Rattle.text_model.specs.JobAlgorithms.{algorithms_from}
use Rattle.text_model.specs.RawOptions.{RawAlgorithm}
use Rattle.text_model.specs.Steps.{◌>>=◌}
use Rattle.job_build.proofs.algorithms.algorithms.Given as goal

abbrev pub invariant-loop-index : goal.invariant-loop-index
invariant-loop-index l =
    ((algorithms_from l.scope (l.index + 1) l.next (drop l.index l.raws) >>= λ ys. Ok (l.found.items ++ ys)) ≡ algorithms_from l.scope 1 l.first l.raws)
    × (l.next + length (flat_map (λ (a : RawAlgorithm). a.outputs) (drop l.index l.raws)) ≤ 1024)
