use Rattle.std.proofs.Common.{◌≡◌, ◌+◌, ◌++◌, drop}
use Rattle.job_build.specs.Kinds.{told_from}
use Rattle.job_build.proofs.scope.push_outputs.Given as goal

abbrev pub invariant-loop-index : goal.invariant-loop-index
invariant-loop-index l =
    l.seen.items ++ told_from (l.first + l.index) (drop l.index l.outputs) ≡ l.fn.seen.items ++ told_from l.first l.outputs
