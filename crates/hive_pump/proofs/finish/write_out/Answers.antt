use Rattle.hive_pump.proofs.Finishing.{broken-off, finished, out-of-memory}
use Rattle.hive_pump.proofs.finish.write_out.Goals as goal

pub returns-in-Over-clause-says : goal.returns-in-Over-clause-says
returns-in-Over-clause-says g c =
    finished g.K.Sink.got g.K.Sink.faults g.K.Sink.admits c.args.job.now c.args.brief c.requires.uncut
    c.args.events.now c.last.new.self c.requires.of_job c.last.ensures.closes c.args.sink.now c.args.ended c.drain.new.events
    c.drain.new.sink c.put_last.new.sink c.requires.ends c.in-Over.ensures.says c.counts.result.now
    c.counts.ensures.counts c.put_last.result c.put_last.ensures

pub returns-in-Broken-clause-says : goal.returns-in-Broken-clause-says
returns-in-Broken-clause-says g c =
    broken-off g.K.Sink.got g.K.Sink.faults g.K.Sink.admits c.args.job.now c.args.brief c.requires.uncut
    c.args.events.now c.last.new.self c.requires.of_job c.last.ensures.closes c.args.sink.now c.args.ended c.run_out.new.events
    c.drain.new.sink c.drain.new.sink c.requires.ends c.drain.new.events c.in-Broken.ensures.says c.run_out.result
    c.run_out.ensures.says

pub returns-in-NoMemory-clause-says : goal.returns-in-NoMemory-clause-says
returns-in-NoMemory-clause-says g c =
    out-of-memory g.K.Sink.got g.K.Sink.faults g.K.Sink.admits c.args.job.now c.args.brief c.requires.uncut
    c.args.events.now c.last.new.self c.requires.of_job c.last.ensures.closes c.args.sink.now c.args.ended c.drain.new.events
    c.drain.new.sink c.drain.new.sink c.requires.ends c.in-NoMemory.ensures.says
