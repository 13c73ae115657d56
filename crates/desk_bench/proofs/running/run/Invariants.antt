use Rattle.desk_bench.specs.Waiting.{AreFitting, IsDeskOf}
use Rattle.desk_bench.proofs.running.run.Given as goal

abbrev pub invariant-loop-step : goal.invariant-loop-step
invariant-loop-step l = IsDeskOf l.job l.desk × AreFitting l.job l.waiting.items
