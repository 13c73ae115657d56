use Rattle.hive_pump.proofs.Companions.{settled-loop, settled-stopped, unsettled, workers-returned}
use Rattle.hive_pump.proofs.Pumping.{ran, room-left}
use Rattle.hive_pump.specs.Going.{course_of}
use Rattle.hive_pump.proofs.beside.run_all.Goals as goal

pub settle-settled-requires-clause-workers : goal.settle-settled-requires-clause-workers
settle-settled-requires-clause-workers g c =
    workers-returned c.args.opened.hall c.args.opened.workers c.as_mut_slice-passes.result.now
    c.run_beside-parted.new.passes c.requires.new c.as_mut_slice-passes.ensures.value c.run_beside-parted.ensures.count
    c.run_beside-parted.ensures.worked

pub end_run-requires-clause-room : goal.end_run-requires-clause-room
end_run-requires-clause-room g c = λ has.
    room-left g.S.Source.rest g.S.Source.faults g.K.Sink.got g.K.Sink.faults g.K.Sink.admits c.args.job.now c.args.brief
    c.args.source.now c.run_beside-parted.new.source c.args.sink.now c.run_beside-parted.new.sink
    (course_of c.in-Ok.events) c.in-By.ended c.requires.room
    (settled-stopped g.S.Source.rest g.S.Source.faults g.K.Sink.got g.K.Sink.faults g.K.Sink.admits c.args.opened.hall
    c.args.job.now c.args.brief c.args.source.now c.run_beside-parted.new.source c.args.sink.now
    c.run_beside-parted.new.run.events c.in-Ok.events c.run_beside-parted.new.sink c.in-By.ended c.in-Ok.ensures.settled
    c.in-By.ensures.parts) has

pub returns-in-Ok : goal.returns-in-Ok
returns-in-Ok g c =
    ran g.S.Source.rest g.S.Source.faults g.K.Sink.got g.K.Sink.faults g.K.Sink.admits c.args.job.now _ c.args.brief
    c.requires.uncut c.args.source.now c.run_beside-parted.new.source c.args.sink.now c.run_beside-parted.new.sink
    c.end_run.new.sink c.in-Ok.events
    (settled-loop c.args.opened.hall c.args.job.now c.run_beside-parted.new.run.events c.in-Ok.events
    c.requires.opening.job_is c.in-Ok.ensures.settled c.in-Ok.ensures.is_loop) c.in-By.ended c.end_run.result.ending
    c.end_run.result.counts c.end_run.result.journal.items
    (settled-stopped g.S.Source.rest g.S.Source.faults g.K.Sink.got g.K.Sink.faults g.K.Sink.admits c.args.opened.hall
    c.args.job.now c.args.brief c.args.source.now c.run_beside-parted.new.source c.args.sink.now
    c.run_beside-parted.new.run.events c.in-Ok.events c.run_beside-parted.new.sink c.in-By.ended c.in-Ok.ensures.settled
    c.in-By.ensures.parts) c.end_run.ensures

pub returns : goal.returns
returns g c =
    unsettled g.S.Source.rest g.S.Source.faults g.K.Sink.got g.K.Sink.faults g.K.Sink.admits c.args.opened.hall
    c.args.job.now c.args.brief c.args.source.now c.run_beside-parted.new.source c.args.sink.now
    c.run_beside-parted.new.run.events c.run_beside-parted.new.sink c.in-By.ended c.in-Err.field-0.counts
    c.in-Err.field-0.journal.items c.requires.opening.job_is c.in-By.ensures.parts c.in-Err.ensures.unsettled
