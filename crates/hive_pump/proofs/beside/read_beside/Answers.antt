use Rattle.std.proofs.Common.{sym, subst}
use Rattle.hive_model.specs.Fits.{Fits}
use Rattle.hive_model.specs.Job.{Job}
use Rattle.hive_pump.proofs.Companions.{course-brought, few-handed, went-beside}
use Rattle.hive_pump.proofs.Going.{admit-next, piece-next}
use Rattle.hive_pump.proofs.Stopping.{stops-broken, stops-ended, stops-memory, stops-unadmitted}
use Rattle.hive_pump.proofs.Texts.{room-event}
use Rattle.hive_pump.specs.Beside.{course_beside}
use Rattle.hive_pump.proofs.beside.read_beside.Goals as goal

pub next-requires-then-can_read : goal.next-requires-then-can_read
next-requires-then-can_read g c = record {
  reads = (
    c.args.job.now,
    (course_beside c.loop.run.events).given,
    c.args.source.now,
    c.loop.invariant.0.read,
  );
}

pub admit-requires-clause-fits : goal.admit-requires-clause-fits
admit-requires-clause-fits g c =
    let read = c.in-Event.ensures.says c.args.job.now (course_beside c.loop.run.events).given c.args.source.now
    c.loop.invariant.0.read in
    subst (λ (j : Job). Fits j c.in-Event.event) (sym c.requires.opening.job_is) read.0

pub loop-preserved-in-Ok : goal.loop-preserved-in-Ok
loop-preserved-in-Ok g c =
    let read = c.in-Event.ensures.says c.args.job.now (course_beside c.loop.run.events).given c.args.source.now
    c.loop.invariant.0.read in (
      admit-next g.S.Source.rest g.S.Source.faults g.K.Sink.got g.K.Sink.faults g.K.Sink.admits c.args.job.now c.args.brief
          c.args.source.now c.args.sink.now c.loop.source c.next-then-can_read.new.source c.loop.sink c.loop.run.input
          c.next-then-can_read.new.self (course_beside c.loop.run.events) (course_beside c.admit.new.self) c.in-Event.event
          c.loop.invariant.0 read.1 (few-handed c.args.hall.now c.loop.run.events c.loop.invariant.1)
          (course-brought c.loop.run.events c.admit.new.self c.in-Event.event c.in-Ok.ensures.says),
      c.admit.ensures.beside,
    )

pub returns-in-Err-NoMemory-clause-parts : goal.returns-in-Err-NoMemory-clause-parts
returns-in-Err-NoMemory-clause-parts g c =
    let read = c.in-Event.ensures.says c.args.job.now (course_beside c.loop.run.events).given c.args.source.now
    c.loop.invariant.0.read in
    let says = rw c.in-Err-NoMemory.field-0-is at c.in-Err-NoMemory.ensures.says in
    stops-unadmitted g.S.Source.rest g.S.Source.faults g.K.Sink.got g.K.Sink.faults g.K.Sink.admits c.args.job.now
    c.args.brief c.args.source.now c.loop.source c.args.sink.now c.loop.sink c.next-then-can_read.new.source
    c.next-then-can_read.new.self (course_beside c.loop.run.events) (course_beside c.admit.new.self) c.in-Event.event
    c.loop.invariant.0.sent read.1.input says.given

pub loop-preserved-in-Piece : goal.loop-preserved-in-Piece
loop-preserved-in-Piece g c =
    let read = c.in-Piece.ensures.says c.args.job.now (course_beside c.loop.run.events).given c.args.source.now
    c.loop.invariant.0.read in (
      piece-next g.S.Source.rest g.S.Source.faults g.K.Sink.got g.K.Sink.faults g.K.Sink.admits c.args.job.now c.args.brief
          c.args.source.now c.args.sink.now c.loop.source c.next-then-can_read.new.source c.loop.sink c.loop.run.input
          c.next-then-can_read.new.self (course_beside c.loop.run.events) c.loop.invariant.0 read,
      c.loop.invariant.1,
    )

pub returns-in-Ended-clause-parts : goal.returns-in-Ended-clause-parts
returns-in-Ended-clause-parts g c =
    let ends = c.in-Ended.ensures.says c.args.job.now (course_beside c.loop.run.events).given c.args.source.now
    c.loop.invariant.0.read in
    stops-ended g.S.Source.rest g.S.Source.faults g.K.Sink.got g.K.Sink.faults g.K.Sink.admits c.args.job.now c.args.brief
    c.args.source.now c.loop.source c.args.sink.now c.loop.sink c.next-then-can_read.new.source
    (course_beside c.loop.run.events) c.in-Ended.ended c.loop.invariant.0.sent ends

pub step_beside-requires-clause-room : goal.step_beside-requires-clause-room
step_beside-requires-clause-room g c κs within = λ event there.
    let read = c.loop.invariant.0.read in
    room-event g.S.Source.rest g.K.Sink.got g.K.Sink.faults g.K.Sink.admits g.met.K.Sink.admits_front c.args.job.now
    c.args.brief c.args.source.now c.loop.source c.args.sink.now c.loop.sink c.requires.room read.fed
    (course_beside c.loop.run.events).given c.loop.run.events.handed read.bytes c.loop.invariant.0.sent event
    c.loop.run.input.reader there read.reads read.at_end

pub loop-preserved-in-Went : goal.loop-preserved-in-Went
loop-preserved-in-Went g c = (
  went-beside g.S.Source.rest g.S.Source.faults g.K.Sink.got g.K.Sink.faults g.K.Sink.admits c.args.job.now c.args.brief
      c.args.source.now c.loop.source c.args.sink.now c.loop.sink c.step_beside.new.sink c.loop.run.input
      c.step_beside.new.run.input c.loop.run.events c.step_beside.new.run.events c.loop.invariant.0
      c.step_beside.ensures.input c.in-Went.ensures.says,
  c.step_beside.ensures.beside,
)

pub returns-in-Broken-clause-parts : goal.returns-in-Broken-clause-parts
returns-in-Broken-clause-parts g c =
    stops-broken g.S.Source.rest g.S.Source.faults g.K.Sink.got g.K.Sink.faults g.K.Sink.admits c.args.job.now c.args.brief
    c.args.source.now c.loop.source c.args.sink.now c.loop.sink c.loop.run.input (course_beside c.loop.run.events)
    c.loop.invariant.0 c.step_beside.new.sink (course_beside c.step_beside.new.run.events) c.in-Broken.ensures.says

pub returns-in-NoMemory-clause-parts : goal.returns-in-NoMemory-clause-parts
returns-in-NoMemory-clause-parts g c =
    stops-memory g.S.Source.rest g.S.Source.faults g.K.Sink.got g.K.Sink.faults g.K.Sink.admits c.args.job.now c.args.brief
    c.args.source.now c.loop.source c.args.sink.now c.loop.sink c.loop.run.input (course_beside c.loop.run.events)
    c.loop.invariant.0 c.step_beside.new.sink (course_beside c.step_beside.new.run.events) c.in-NoMemory.ensures.says.0
    c.in-NoMemory.ensures.says.1
