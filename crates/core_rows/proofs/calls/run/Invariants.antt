use Rattle.core_rows.specs.Hands.{IsHandOf}
use Rattle.core_rows.proofs.calls.run.Given as goal

abbrev pub invariant-loop-claim : goal.invariant-loop-claim
invariant-loop-claim l = IsHandOf l.job l.hand
