use Rattle.core_rows.specs.Hands.{IsHandOf}
use Rattle.core_rows.proofs.trial.run.Given as goal

abbrev pub invariant-loop-step : goal.invariant-loop-step
invariant-loop-step l = IsHandOf l.job l.hand
