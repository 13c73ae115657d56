use Rattle.hive_pump.proofs.Courses.{room-due}
use Rattle.hive_pump.proofs.Draining.{begins, runs-broken, runs-went, stays-both, stays-same, went-less, went-stays}
use Rattle.hive_pump.specs.Going.{course_of}
use Rattle.hive_pump.proofs.finish.drain.Goals as goal

pub events-init : goal.events-init
events-init g c = (
  begins g.K.Sink.got g.K.Sink.faults g.K.Sink.admits c.args.job.now c.args.brief (course_of c.args.events.now)
      c.args.sink.now c.requires.room,
  stays-same c.args.events.now,
)

pub make_step-requires-clause-room : goal.make_step-requires-clause-room
make_step-requires-clause-room g c = λ event there.
    room-due g.K.Sink.got g.K.Sink.faults g.K.Sink.admits c.args.job.now c.args.brief g.met.K.Sink.admits_front
    (course_of c.events.events) c.events.sink c.events.invariant.0.room event there

pub events-smaller : goal.events-smaller
events-smaller g c =
    went-less g.K.Sink.got g.K.Sink.faults g.K.Sink.admits c.args.job.now c.args.brief c.events.events
    c.make_step.new.events c.events.sink c.make_step.new.sink c.in-Went.ensures.says

pub events-preserved : goal.events-preserved
events-preserved g c = (
  runs-went g.K.Sink.got g.K.Sink.faults g.K.Sink.admits c.args.job.now c.args.brief c.args.events.now c.events.events
      c.make_step.new.events c.args.sink.now c.events.sink c.make_step.new.sink c.events.invariant.0
      c.in-Went.ensures.says,
  stays-both c.args.events.now c.events.events c.make_step.new.events c.events.invariant.1
      (went-stays g.K.Sink.got g.K.Sink.faults g.K.Sink.admits c.args.job.now c.args.brief c.events.events
      c.make_step.new.events c.events.sink c.make_step.new.sink c.in-Went.ensures.says),
)

pub returns-in-Broken-clause-says : goal.returns-in-Broken-clause-says
returns-in-Broken-clause-says g c =
    runs-broken g.K.Sink.got g.K.Sink.faults g.K.Sink.admits c.args.job.now c.args.brief c.args.events.now c.events.events
    c.make_step.new.events c.args.sink.now c.events.sink c.make_step.new.sink c.events.invariant.0 c.events.invariant.1
    c.in-Broken.ensures.says
