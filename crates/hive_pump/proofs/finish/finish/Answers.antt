use Rattle.hive_pump.proofs.Finishing.{run-out}
use Rattle.hive_pump.proofs.finish.finish.Goals as goal

pub returns-in-Sink-clause-says : goal.returns-in-Sink-clause-says
returns-in-Sink-clause-says g c =
    run-out g.K.Sink.got g.K.Sink.faults g.K.Sink.admits c.args.job.now c.args.brief c.args.ended
    c.args.events.now c.run_out.new.events c.args.sink.now c.run_out.result c.in-Sink.is c.run_out.ensures.says
