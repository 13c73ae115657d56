use Rattle.hive_model.specs.Same.{texts}
use Rattle.hive_top.proofs.Endings.{is-ran, trace-room}
use Rattle.hive_top.proofs.top.hive_plain.Goals as goal

pub trace_run-requires : goal.trace_run-requires
trace_run-requires g c = record {
  room = trace-room g.F.Shelf.files g.F.Shelf.faults g.S.Source.rest g.S.Source.faults g.K.Sink.got g.K.Sink.faults
      (texts c.args.words.now) c.args.shelf.now c.call_plain-ran.new.shelf c.args.source.now c.call_plain-ran.new.source c.args.sink.now
      c.call_plain-ran.new.sink c.command-asked.result c.command-asked.ensures.is c.call_plain-ran.result.status
      c.call_plain-ran.result.journal.items c.call_plain-ran.ensures (g.T.Sink.admits c.args.trace.now) c.requires.trace_room;
}

pub returns : goal.returns
returns g c =
    is-ran g.F.Shelf.files g.F.Shelf.faults g.S.Source.rest g.S.Source.faults g.K.Sink.got g.K.Sink.faults
    (texts c.args.words.now) c.args.shelf.now c.call_plain-ran.new.shelf c.args.source.now c.call_plain-ran.new.source c.args.sink.now
    c.call_plain-ran.new.sink c.command-asked.result c.command-asked.ensures.is c.call_plain-ran.result.status
    c.call_plain-ran.result.journal.items c.call_plain-ran.ensures g.T.Sink.got g.T.Sink.faults c.args.trace.now c.trace_run.new.trace
    c.trace_run.result.status c.trace_run.result.journal.items c.trace_run.ensures.follows c.trace_run.ensures.traced
    c.trace_run.ensures.unasked c.trace_run.ensures.untouched c.trace_run.ensures.journal
