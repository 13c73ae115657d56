use Rattle.hive_pump.proofs.Companions.{drains-broken, drains-memory, drains-went}
use Rattle.hive_pump.proofs.Courses.{room-due}
use Rattle.hive_pump.specs.Beside.{course_beside}
use Rattle.hive_pump.proofs.beside.drain_beside.Goals as goal

pub step_beside-requires-clause-room : goal.step_beside-requires-clause-room
step_beside-requires-clause-room g c κs within = λ event there.
    room-due g.K.Sink.got g.K.Sink.faults g.K.Sink.admits c.args.job.now c.args.brief g.met.K.Sink.admits_front
    (course_beside c.loop.run.events) c.loop.sink c.loop.invariant.0.room event there

pub loop-preserved-in-Went : goal.loop-preserved-in-Went
loop-preserved-in-Went g c = (
  drains-went g.K.Sink.got g.K.Sink.faults g.K.Sink.admits c.args.job.now c.args.brief
      (course_beside c.args.run.now.events) c.loop.run.events c.step_beside.new.run.events c.args.sink.now c.loop.sink
      c.step_beside.new.sink c.loop.invariant.0 c.in-Went.ensures.says,
  c.step_beside.ensures.beside,
)

pub returns-in-Broken-clause-says : goal.returns-in-Broken-clause-says
returns-in-Broken-clause-says g c =
    drains-broken g.K.Sink.got g.K.Sink.faults g.K.Sink.admits c.args.job.now c.args.brief c.args.ended c.requires.ends
    (course_beside c.args.run.now.events) (course_beside c.loop.run.events) (course_beside c.step_beside.new.run.events)
    c.args.sink.now c.loop.sink c.step_beside.new.sink c.loop.invariant.0 c.in-Broken.ensures.says

pub returns-in-NoMemory-clause-says : goal.returns-in-NoMemory-clause-says
returns-in-NoMemory-clause-says g c =
    drains-memory g.K.Sink.got g.K.Sink.faults g.K.Sink.admits c.args.job.now c.args.brief c.args.ended c.requires.ends
    (course_beside c.args.run.now.events) (course_beside c.loop.run.events) (course_beside c.step_beside.new.run.events)
    c.args.sink.now c.loop.sink c.step_beside.new.sink c.loop.invariant.0 c.in-NoMemory.ensures.says.0
    c.in-NoMemory.ensures.says.1
