use Rattle.hive_pump.proofs.Companions.{parts-broken, run-out}
use Rattle.hive_pump.proofs.beside.write_beside.Goals as goal

pub returns-in-Broken-clause-parts : goal.returns-in-Broken-clause-parts
returns-in-Broken-clause-parts g c =
    parts-broken g.K.Sink.got g.K.Sink.faults g.K.Sink.admits c.args.job.now c.args.brief c.args.hall.now
    c.args.run.now.events c.last.new.self c.drain_beside.new.run.events c.run_out_beside.new.events c.args.sink.now
    c.drain_beside.new.sink c.args.ended c.run_out_beside.result c.last.ensures.says c.in-Broken.ensures.says
    c.run_out_beside.ensures.says

pub returns-in-Over-clause-ran_out : goal.returns-in-Over-clause-ran_out
returns-in-Over-clause-ran_out g c =
    run-out c.args.hall.now c.drain_beside.new.run.events c.args.ended c.in-Over.ensures.cause
