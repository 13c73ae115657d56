use Rattle.std.proofs.Common.{inr}
use Rattle.hive_pump.proofs.Companions.{put-cause, put-done, shown-beside}
use Rattle.hive_pump.proofs.beside.step_beside.Goals as goal

pub returns-in-Result-clause-says : goal.returns-in-Result-clause-says
returns-in-Result-clause-says g c =
    shown-beside g.K.Sink.got g.K.Sink.faults g.K.Sink.admits c.args.job.now c.args.brief c.args.hall.now
    c.args.run.now.events c.turn.new.self c.args.sink.now c.put.new.sink c.in-Result.result c.put.result c.requires.uncut
    c.requires.of_job c.in-Result.ensures.says c.put.ensures

pub returns-in-Result-clause-cause : goal.returns-in-Result-clause-cause
returns-in-Result-clause-cause g c =
    put-cause g.K.Sink.got g.K.Sink.faults g.K.Sink.admits _ c.args.sink.now c.put.new.sink c.args.hall.now c.turn.new.self
    c.put.result c.put.ensures

pub returns-in-Result-clause-done : goal.returns-in-Result-clause-done
returns-in-Result-clause-done g c = put-done c.args.run.now.events c.turn.new.self c.put.result c.in-Result.ensures.says.handed

pub returns-in-Went-clause-done : goal.returns-in-Went-clause-done
returns-in-Went-clause-done g c = inr c.in-Went.ensures.done
