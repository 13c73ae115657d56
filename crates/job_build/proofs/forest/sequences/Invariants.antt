use Rattle.std.proofs.Common.{◌≡◌, ◌++◌, drop, map}
use Rattle.std.specs.List.{zip}
use Rattle.text_model.specs.Jobs.{sequence_with}
use Rattle.job_build.proofs.forest.sequences.Given as goal

abbrev pub invariant-loop-index : goal.invariant-loop-index
invariant-loop-index l =
    l.found.items ++ map sequence_with (zip (drop l.index l.raws) (drop l.index l.tree.members)) ≡ map sequence_with (zip l.raws l.tree.members)
