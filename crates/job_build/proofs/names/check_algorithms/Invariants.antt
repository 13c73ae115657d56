use Rattle.std.proofs.Common.{◌≡◌, ◌+◌, drop}
use Rattle.std.specs.List.{enumerate_from}
use Rattle.text_model.specs.JobNames.{refusal_of_algorithm}
use Rattle.text_model.specs.Steps.{find_map}
use Rattle.job_build.proofs.names.check_algorithms.Given as goal

abbrev pub invariant-loop-index : goal.invariant-loop-index
invariant-loop-index l =
    find_map (refusal_of_algorithm l.resources) (enumerate_from (l.index + 1) (drop l.index l.algorithms))
    ≡ find_map (refusal_of_algorithm l.resources) (enumerate_from 1 l.algorithms)
