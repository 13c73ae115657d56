use Rattle.lock_bench.specs.Passes.{IsReady}
use Rattle.lock_bench.proofs.locks.turn_often.Given as goal

abbrev pub invariant-loop-time : goal.invariant-loop-time
invariant-loop-time g l = IsReady l.turn 1 l.pass
