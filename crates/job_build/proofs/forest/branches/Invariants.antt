use Rattle.std.proofs.Common.{◌≡◌, ◌++◌, drop, map}
use Rattle.text_model.specs.Jobs.{branch_of}
use Rattle.job_build.proofs.forest.branches.Given as goal

abbrev pub invariant-loop-sequence : goal.invariant-loop-sequence
invariant-loop-sequence l = l.found.items ++ map branch_of (drop l.sequence-index l.sequences) ≡ map branch_of l.sequences
