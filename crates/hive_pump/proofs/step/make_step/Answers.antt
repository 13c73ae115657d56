use Rattle.hive_pump.proofs.Shown.{shown}
use Rattle.hive_pump.proofs.step.make_step.Goals as goal

pub returns-in-Result-clause-says : goal.returns-in-Result-clause-says
returns-in-Result-clause-says g c =
    shown g.K.Sink.got g.K.Sink.faults g.K.Sink.admits c.args.job.now c.args.brief c.args.sink.now c.args.events.now
    c.turn.new.self c.put.new.sink c.in-Result.result c.put.result c.requires.uncut c.requires.of_job
    c.in-Result.ensures.says c.put.ensures
