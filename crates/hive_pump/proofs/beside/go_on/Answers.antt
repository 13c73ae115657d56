use Rattle.hive_pump.proofs.Companions.{parts-released}
use Rattle.hive_pump.proofs.beside.go_on.Goals as goal

pub returns-clause-parts : goal.returns-clause-parts
returns-clause-parts g c =
    parts-released g.S.Source.rest g.S.Source.faults g.K.Sink.got g.K.Sink.faults g.K.Sink.admits c.args.hall.now
    c.args.job.now c.args.brief c.args.source.now c.read_and_write-parted.new.source c.args.sink.now
    c.read_and_write-parted.new.run.events c.stop.new.self c.read_and_write-parted.new.sink
    c.read_and_write-parted.result c.stop.ensures.says c.stop.ensures.lost c.read_and_write-parted.ensures.parts
