use Rattle.std.proofs.Common.{◌≡◌, ◌+◌, ◌++◌, drop}
use Rattle.job_build.specs.Repeated.{placed, repeat_behind}
use Rattle.job_build.proofs.repeats.add_names.Given as goal

abbrev pub invariant-loop-index : goal.invariant-loop-index
invariant-loop-index l =
    (repeat_behind l.seen (placed l.keyed l.array (l.index + 1) (drop l.index l.names)) ≡ repeat_behind l.fn.seen (placed l.keyed l.array 1 l.names))
    × (l.seen ++ drop l.index l.names ≡ l.fn.seen ++ l.names)
