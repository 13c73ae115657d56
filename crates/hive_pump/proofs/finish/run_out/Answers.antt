use Rattle.hive_pump.proofs.Draining.{handed-less, worked-less}
use Rattle.hive_pump.proofs.finish.run_out.Goals as goal
use Rattle.hive_pump.proofs.finish.run_out.Goals.{in-Result, in-Went}

pub events-smaller-after-turn : goal.events-smaller-after-turn
events-smaller-after-turn c = elim c.match-turn.branch [
  | in-Result w ↦ handed-less c.events.events c.turn.new.self _ w.in-Result.ensures.says
  | in-Went w ↦ worked-less c.events.events c.turn.new.self w.in-Went.ensures.says.0 w.in-Went.ensures.says.1
]
