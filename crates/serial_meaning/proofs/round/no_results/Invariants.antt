use Rattle.std.proofs.Common.{◌≡◌, None, replicate}
use Rattle.serial_meaning.proofs.round.no_results.Given as goal

abbrev pub invariant-loop-algorithm : goal.invariant-loop-algorithm
invariant-loop-algorithm l = l.ran.items ≡ replicate l._algorithm None
