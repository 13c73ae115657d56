use Rattle.hive_workers.specs.Working.{IsBetween}
use Rattle.hive_workers.proofs.worker.Worker.run.Given as goal

abbrev pub invariant-loop : goal.invariant-loop
invariant-loop g l = IsBetween l.hall l.fn.pass l.fn.steps l.tally l.steps l.pass
