use Rattle.hive_pump.proofs.Draining.{Runs, left_in}
use Rattle.hive_pump.specs.Going.{Stays, course_of}
use Rattle.hive_pump.proofs.finish.drain.Given as goal

abbrev pub invariant-events : goal.invariant-events
invariant-events g l =
    Runs g.K.Sink.got g.K.Sink.faults g.K.Sink.admits l.job l.brief (course_of l.fn.events) (course_of l.events) l.fn.sink l.sink
    × Stays l.fn.events l.events

abbrev pub decreases-events : goal.decreases-events
decreases-events g l = left_in l.events
