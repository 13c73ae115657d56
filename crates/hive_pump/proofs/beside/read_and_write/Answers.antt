use Rattle.hive_pump.proofs.Companions.{parts-on}
use Rattle.hive_pump.proofs.Pumping.{room-left}
use Rattle.hive_pump.specs.Beside.{course_beside}
use Rattle.hive_pump.specs.Course.{reports_left}
use Rattle.hive_pump.specs.Going.{line_for}
use Rattle.hive_pump.proofs.beside.read_and_write.Goals as goal

pub finish_beside-requires-clause-room : goal.finish_beside-requires-clause-room
finish_beside-requires-clause-room g c κs within = λ has.
    g.met.K.Sink.admits_front c.read_beside.new.sink
    (reports_left c.args.job.now c.args.brief (course_beside c.read_beside.new.run.events))
    (line_for c.args.job.now (course_beside c.read_beside.new.run.events).given c.in-By.ended)
    (room-left g.S.Source.rest g.S.Source.faults g.K.Sink.got g.K.Sink.faults g.K.Sink.admits c.args.job.now c.args.brief
    c.args.source.now c.read_beside.new.source c.args.sink.now c.read_beside.new.sink
    (course_beside c.read_beside.new.run.events) c.in-By.ended c.requires.room c.in-By.ensures.parts has)

pub returns-in-By-clause-parts : goal.returns-in-By-clause-parts
returns-in-By-clause-parts g c =
    parts-on g.S.Source.rest g.S.Source.faults g.K.Sink.got g.K.Sink.faults g.K.Sink.admits c.args.hall.now
    c.args.job.now c.args.brief c.args.source.now c.read_beside.new.source c.args.sink.now
    c.read_beside.new.run.events c.finish_beside.new.run.events c.read_beside.new.sink c.finish_beside.new.sink
    c.in-By.ended c.finish_beside.result c.in-By.ensures.parts c.finish_beside.ensures.parts
