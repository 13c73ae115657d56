use Rattle.core_rows.specs.Hands.{IsHandOf}
use Rattle.core_rows.proofs.steps.finish.Given as goal

abbrev pub invariant-loop-round : goal.invariant-loop-round
invariant-loop-round l = IsHandOf l.job l.hand
