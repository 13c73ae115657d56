use Rattle.std.proofs.Common.{◌≡◌, take, fold}
use Rattle.hive_model.specs.Call.{lesser}
use Rattle.hive_model.proofs.function.least_from.Given as goal

abbrev pub invariant-loop-number : goal.invariant-loop-number
invariant-loop-number l = l.least ≡ fold lesser l.fn.first (take l.number-index l.rest)
