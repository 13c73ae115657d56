use Rattle.hive_pump.proofs.Going.{IsGoing}
use Rattle.hive_pump.specs.Course.{IsUnderWay}
use Rattle.hive_pump.specs.Going.{course_of, left_to_do}
use Rattle.hive_pump.proofs.plain.read_all.Given as goal

abbrev pub invariant-records : goal.invariant-records
invariant-records g l =
    IsUnderWay g.S.Source.rest g.S.Source.faults g.K.Sink.got g.K.Sink.faults g.K.Sink.admits l.job l.brief l.fn.source
    l.source l.fn.sink l.sink l.run.input (course_of l.run.events)
    × IsGoing l.job l.fn.run.events.desk.slots l.run.events

abbrev pub decreases-records : goal.decreases-records
decreases-records g l = left_to_do l.run.input l.run.events
