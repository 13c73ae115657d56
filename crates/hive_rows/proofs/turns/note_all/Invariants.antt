use Rattle.hive_rows.specs.Passes.{IsReady}
use Rattle.hive_rows.proofs.turns.note_all.Given as goal

abbrev pub invariant-loop-k : goal.invariant-loop-k
invariant-loop-k g l = IsReady l.turn 1 l.pass
