use Rattle.std.proofs.Common.{sym, ap, subst, ◌∙◌}
use Rattle.event_loop.specs.Loop.{LoopState}
use Rattle.hive_model.specs.Fits.{Fits}
use Rattle.hive_model.specs.Job.{Job}
use Rattle.hive_pump.proofs.Draining.{went-stays}
use Rattle.hive_pump.proofs.Going.{admit-less, admit-next, course-admitted, going-admitted, going-stays, piece-less, piece-next, step-less, went-next}
use Rattle.hive_pump.proofs.Stopping.{stops-broken, stops-ended, stops-memory, stops-unadmitted, went-well, went-wrong}
use Rattle.hive_pump.proofs.Texts.{room-event}
use Rattle.hive_pump.specs.Going.{course_of}
use Rattle.hive_pump.proofs.plain.read_all.Goals as goal

pub next-requires : goal.next-requires
next-requires g c = record {
  reads = (
    c.args.job.now,
    c.records.run.events.desk.admitted,
    c.args.source.now,
    c.records.invariant.0.read,
  );
}

pub admit-requires-clause-fits : goal.admit-requires-clause-fits
admit-requires-clause-fits g c =
    let read = c.in-Event.ensures.says c.args.job.now c.records.run.events.desk.admitted c.args.source.now
    c.records.invariant.0.read in
    subst (λ (j : Job). Fits j c.in-Event.event) (sym c.records.invariant.1.loop.job_is) read.0

pub returns-then-is_err-clause-stopped : goal.returns-then-is_err-clause-stopped
returns-then-is_err-clause-stopped g c =
    let read = c.in-Event.ensures.says c.args.job.now c.records.run.events.desk.admitted c.args.source.now
    c.records.invariant.0.read in
    let same = went-wrong c.admit.result _ c.admit.ensures.unchanged
    (sym c.is_err.ensures.value ∙ c.if-is_err.true) in
    stops-unadmitted g.S.Source.rest g.S.Source.faults g.K.Sink.got g.K.Sink.faults g.K.Sink.admits c.args.job.now
    c.args.brief c.args.source.now c.records.source c.args.sink.now c.records.sink c.next.new.source c.next.new.self
    (course_of c.records.run.events) (course_of c.admit.new.self) c.in-Event.event c.records.invariant.0.sent
    read.1.input (ap (λ (l : LoopState). l.desk.admitted) same)

pub records-smaller-else-is_err : goal.records-smaller-else-is_err
records-smaller-else-is_err g c =
    let read = c.in-Event.ensures.says c.args.job.now c.records.run.events.desk.admitted c.args.source.now
    c.records.invariant.0.read in
    let admitted = went-well c.admit.result _ c.admit.ensures.admitted
    (sym c.is_err.ensures.value ∙ c.if-is_err.false) in
    admit-less c.records.run.events c.admit.new.self c.in-Event.event c.records.run.input c.next.new.self read.1.less
    c.records.invariant.1.loop.sound.handed admitted

pub records-preserved-else-is_err : goal.records-preserved-else-is_err
records-preserved-else-is_err g c =
    let read = c.in-Event.ensures.says c.args.job.now c.records.run.events.desk.admitted c.args.source.now
    c.records.invariant.0.read in
    let admitted = went-well c.admit.result _ c.admit.ensures.admitted
    (sym c.is_err.ensures.value ∙ c.if-is_err.false) in (
      admit-next g.S.Source.rest g.S.Source.faults g.K.Sink.got g.K.Sink.faults g.K.Sink.admits c.args.job.now c.args.brief
          c.args.source.now c.args.sink.now c.records.source c.next.new.source c.records.sink c.records.run.input
          c.next.new.self (course_of c.records.run.events) (course_of c.admit.new.self) c.in-Event.event
          c.records.invariant.0 read.1 c.records.invariant.1.loop.sound.handed
          (course-admitted c.records.run.events c.admit.new.self c.in-Event.event admitted),
      going-admitted c.args.job.now c.args.run.now.events.desk.slots c.records.run.events c.admit.new.self c.in-Event.event
          c.records.invariant.1 admitted c.admit.ensures.is_loop,
    )

pub records-smaller-in-Piece : goal.records-smaller-in-Piece
records-smaller-in-Piece g c =
    let read = c.in-Piece.ensures.says c.args.job.now c.records.run.events.desk.admitted c.args.source.now
    c.records.invariant.0.read in
    piece-less c.records.run.events c.records.run.input c.next.new.self read.less

pub records-preserved-in-Piece : goal.records-preserved-in-Piece
records-preserved-in-Piece g c =
    let read = c.in-Piece.ensures.says c.args.job.now c.records.run.events.desk.admitted c.args.source.now
    c.records.invariant.0.read in (
      piece-next g.S.Source.rest g.S.Source.faults g.K.Sink.got g.K.Sink.faults g.K.Sink.admits c.args.job.now c.args.brief
          c.args.source.now c.args.sink.now c.records.source c.next.new.source c.records.sink c.records.run.input
          c.next.new.self (course_of c.records.run.events) c.records.invariant.0 read,
      c.records.invariant.1,
    )

pub returns-in-Ended-clause-stopped : goal.returns-in-Ended-clause-stopped
returns-in-Ended-clause-stopped g c =
    let ends = c.in-Ended.ensures.says c.args.job.now c.records.run.events.desk.admitted c.args.source.now
    c.records.invariant.0.read in
    stops-ended g.S.Source.rest g.S.Source.faults g.K.Sink.got g.K.Sink.faults g.K.Sink.admits c.args.job.now c.args.brief
    c.args.source.now c.records.source c.args.sink.now c.records.sink c.next.new.source (course_of c.records.run.events)
    c.in-Ended.ended c.records.invariant.0.sent ends

pub make_step-requires-clause-room : goal.make_step-requires-clause-room
make_step-requires-clause-room g c = λ event there.
    let read = c.records.invariant.0.read in
    room-event g.S.Source.rest g.K.Sink.got g.K.Sink.faults g.K.Sink.admits g.met.K.Sink.admits_front c.args.job.now
    c.args.brief c.args.source.now c.records.source c.args.sink.now c.records.sink c.requires.room read.fed
    c.records.run.events.desk.admitted c.records.run.events.handed read.bytes c.records.invariant.0.sent event
    c.records.run.input.reader there read.reads read.at_end

pub records-smaller : goal.records-smaller
records-smaller g c =
    step-less g.K.Sink.got g.K.Sink.faults g.K.Sink.admits c.args.job.now c.args.brief c.records.run.events
    c.make_step.new.events c.records.sink c.make_step.new.sink c.records.run.input c.in-Went.ensures.says

pub records-preserved : goal.records-preserved
records-preserved g c = (
  went-next g.S.Source.rest g.S.Source.faults g.K.Sink.got g.K.Sink.faults g.K.Sink.admits c.args.job.now c.args.brief
      c.args.source.now c.args.sink.now c.records.source c.records.sink c.make_step.new.sink c.records.run.input
      c.records.run.events c.make_step.new.events c.records.invariant.0 c.in-Went.ensures.says,
  going-stays c.args.job.now c.args.run.now.events.desk.slots c.records.run.events c.make_step.new.events
      c.records.invariant.1
      (went-stays g.K.Sink.got g.K.Sink.faults g.K.Sink.admits c.args.job.now c.args.brief c.records.run.events
      c.make_step.new.events c.records.sink c.make_step.new.sink c.in-Went.ensures.says) c.make_step.ensures.is_loop,
)

pub returns-in-Broken-clause-stopped : goal.returns-in-Broken-clause-stopped
returns-in-Broken-clause-stopped g c =
    stops-broken g.S.Source.rest g.S.Source.faults g.K.Sink.got g.K.Sink.faults g.K.Sink.admits c.args.job.now c.args.brief
    c.args.source.now c.records.source c.args.sink.now c.records.sink c.records.run.input (course_of c.records.run.events)
    c.records.invariant.0 c.make_step.new.sink (course_of c.make_step.new.events) c.in-Broken.ensures.says.shown

pub returns-in-NoMemory-clause-stopped : goal.returns-in-NoMemory-clause-stopped
returns-in-NoMemory-clause-stopped g c =
    stops-memory g.S.Source.rest g.S.Source.faults g.K.Sink.got g.K.Sink.faults g.K.Sink.admits c.args.job.now c.args.brief
    c.args.source.now c.records.source c.args.sink.now c.records.sink c.records.run.input (course_of c.records.run.events)
    c.records.invariant.0 c.make_step.new.sink (course_of c.make_step.new.events) c.in-NoMemory.ensures.says.0.records
    c.in-NoMemory.ensures.says.1
