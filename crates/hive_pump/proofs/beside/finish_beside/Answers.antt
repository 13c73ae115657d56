use Rattle.std.proofs.Common.{sym, subst}
use Rattle.hive_pump.proofs.Companions.{goes-nowhere, ran-out-beside}
use Rattle.hive_pump.specs.Beside.{GoesOnTo, PartsFrom, course_beside}
use Rattle.hive_pump.specs.declared.ending.Ending.TheVariants as ending
use Rattle.hive_pump.proofs.beside.finish_beside.Goals as goal

pub returns-in-Sink-clause-parts : goal.returns-in-Sink-clause-parts
returns-in-Sink-clause-parts g c =
    subst (λ e. PartsFrom g.K.Sink.got g.K.Sink.faults g.K.Sink.admits c.args.hall.now c.args.job.now c.args.brief e
    c.args.run.now.events c.run_out_beside.new.events c.args.sink.now c.args.sink.now c.run_out_beside.result)
    (sym c.in-Sink.is)
    (ran-out-beside g.K.Sink.got g.K.Sink.faults g.K.Sink.admits c.args.job.now c.args.brief c.args.hall.now
    c.args.run.now.events c.run_out_beside.new.events c.args.sink.now c.run_out_beside.result
    c.run_out_beside.ensures.says)

pub returns-in-NoMemory-clause-parts : goal.returns-in-NoMemory-clause-parts
returns-in-NoMemory-clause-parts g c =
    subst (λ e. GoesOnTo g.K.Sink.got g.K.Sink.faults g.K.Sink.admits c.args.job.now c.args.brief
    (course_beside c.args.run.now.events) (course_beside c.args.run.now.events) c.args.sink.now c.args.sink.now e
    ending.NoMemory) (sym c.in-NoMemory.is)
    (goes-nowhere g.K.Sink.got g.K.Sink.faults g.K.Sink.admits c.args.job.now c.args.brief
    (course_beside c.args.run.now.events) c.args.sink.now ending.NoMemory)
