use Rattle.std.proofs.Common.{◌≡◌, ◌++◌, drop}
use Rattle.job_build.specs.Kinds.{kinds_in}
use Rattle.job_build.proofs.kinds.push_outputs.Given as goal

abbrev pub invariant-loop-output : goal.invariant-loop-output
invariant-loop-output l = l.kinds.items ++ kinds_in (drop l.output-index l.outputs) ≡ l.fn.kinds.items ++ kinds_in l.outputs
