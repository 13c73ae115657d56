use Rattle.std.proofs.Common.{◌≡◌, ◌++◌, drop, map}
use Rattle.text_model.specs.Jobs.{need_of}
use Rattle.job_build.proofs.needs.needs.Given as goal

abbrev pub invariant-loop-algorithm : goal.invariant-loop-algorithm
invariant-loop-algorithm l = l.found.items ++ map need_of (drop l.algorithm-index l.algorithms) ≡ map need_of l.algorithms
