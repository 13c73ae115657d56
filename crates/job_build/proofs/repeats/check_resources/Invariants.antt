use Rattle.std.proofs.Common.{◌≡◌, ◌+◌, false, [], drop}
use Rattle.job_build.specs.Repeated.{placed, resources_behind}
use Rattle.job_build.proofs.repeats.check_resources.Given as goal

abbrev pub invariant-loop-index : goal.invariant-loop-index
invariant-loop-index l =
    resources_behind l.known l.seen (placed false l.array (l.index + 1) (drop l.index l.names))
    ≡ resources_behind l.known [] (placed false l.array 1 l.names)
