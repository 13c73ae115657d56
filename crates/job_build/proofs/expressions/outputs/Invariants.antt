use Rattle.std.proofs.Common.{◌≡◌, ◌++◌, Ok, drop, take}
use Rattle.std.specs.List.{enumerate_from}
use Rattle.text_model.specs.JobAlgorithms.{output_at}
use Rattle.text_model.specs.Steps.{◌>>=◌, collect}
use Rattle.job_build.proofs.expressions.outputs.Given as goal

abbrev pub invariant-loop-above : goal.invariant-loop-above
invariant-loop-above l =
    (collect (output_at l.path (take l.inputs l.handles) (drop l.inputs l.handles)) (enumerate_from l.above (drop l.above l.raws)) >>= λ ys. Ok (l.found.items ++ ys))
    ≡ collect (output_at l.path (take l.inputs l.handles) (drop l.inputs l.handles)) (enumerate_from 0 l.raws)
