use Rattle.hive_pump.proofs.Pumping.{ran, room-left}
use Rattle.hive_pump.specs.Going.{course_of}
use Rattle.hive_pump.proofs.plain.run_job.Goals as goal

pub end_run-requires-clause-room : goal.end_run-requires-clause-room
end_run-requires-clause-room g c = λ has.
    room-left g.S.Source.rest g.S.Source.faults g.K.Sink.got g.K.Sink.faults g.K.Sink.admits c.args.job.now c.args.brief
    c.args.source.now c.read_all-ended.new.source c.args.sink.now c.read_all-ended.new.sink
    (course_of c.read_all-ended.new.run.events) c.read_all-ended.result c.requires.room c.read_all-ended.ensures.stopped has

pub returns : goal.returns
returns g c =
    ran g.S.Source.rest g.S.Source.faults g.K.Sink.got g.K.Sink.faults g.K.Sink.admits c.args.job.now
    c.args.run.events.desk.slots c.args.brief c.requires.uncut c.args.source.now c.read_all-ended.new.source
    c.args.sink.now c.read_all-ended.new.sink c.end_run.new.sink c.read_all-ended.new.run.events
    c.read_all-ended.ensures.is_loop c.read_all-ended.result c.end_run.result.ending c.end_run.result.counts
    c.end_run.result.journal.items c.read_all-ended.ensures.stopped c.end_run.ensures
