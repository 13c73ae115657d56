use Rattle.hall_loop.specs.Beside.{IsBeside}
use Rattle.hive_pump.proofs.Companions.{Drains}
use Rattle.hive_pump.specs.Beside.{course_beside}
use Rattle.hive_pump.proofs.beside.drain_beside.Given as goal

abbrev pub invariant-loop : goal.invariant-loop
invariant-loop g l =
    Drains g.K.Sink.got g.K.Sink.faults g.K.Sink.admits l.job l.brief (course_beside l.fn.run.events)
    (course_beside l.run.events) l.fn.sink l.sink
    × IsBeside l.hall l.run.events
