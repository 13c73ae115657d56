use Rattle.std.proofs.Common.{◌≡◌, take, fold}
use Rattle.hive_model.specs.Call.{greater}
use Rattle.hive_model.proofs.function.greatest_from.Given as goal

abbrev pub invariant-loop-number : goal.invariant-loop-number
invariant-loop-number l = l.greatest ≡ fold greater l.fn.first (take l.number-index l.rest)
