use Rattle.hall_loop.specs.Beside.{IsBeside}
use Rattle.hive_pump.specs.Beside.{course_beside}
use Rattle.hive_pump.specs.Course.{IsUnderWay}
use Rattle.hive_pump.proofs.beside.read_beside.Given as goal

abbrev pub invariant-loop : goal.invariant-loop
invariant-loop g l =
    IsUnderWay g.S.Source.rest g.S.Source.faults g.K.Sink.got g.K.Sink.faults g.K.Sink.admits l.job l.brief l.fn.source
    l.source l.fn.sink l.sink l.run.input (course_beside l.run.events)
    × IsBeside l.hall l.run.events
