use Rattle.std.proofs.Common.{◌≡◌, true}
use Rattle.event_loop.specs.Loop.{IsLoop}
use Rattle.scheduler_core.specs.Says.{is_closed}
use Rattle.hive_pump.specs.Going.{IsFinal}
use Rattle.hive_pump.proofs.Draining.{left_in}
use Rattle.hive_pump.proofs.finish.run_out.Given as goal

abbrev pub invariant-events : goal.invariant-events
invariant-events l = IsFinal l.fn.events l.events × (is_closed l.events.desk ≡ true) × IsLoop l.events

abbrev pub decreases-events : goal.decreases-events
decreases-events l = left_in l.events
