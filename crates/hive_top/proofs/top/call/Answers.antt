use Rattle.std.specs.Arc.{arc_value}
use Rattle.hive_model.specs.Same.{texts}
use Rattle.hive_top.proofs.Tasks.{came-generated, came-run, came-told, line-room, room-job, room-told}
use Rattle.hive_top.proofs.top.call.Goals as goal

pub pump-pumped-requires-clause-room : goal.pump-pumped-requires-clause-room
pump-pumped-requires-clause-room g c = λ lifetimes outlive.
    room-job (texts c.args.words.now) (g.F.Shelf.files c.args.shelf.now) (g.S.Source.rest c.args.source.now)
    (g.K.Sink.admits c.args.sink.now) (g.met.K.Sink.admits_front c.args.sink.now) c.requires.room c.args.asked c.requires.asked
    (g.F.Shelf.faults c.args.shelf.now) (g.F.Shelf.faults c.task_of.new.shelf) (arc_value c.in-Run.job) c.in-Run.plan
    c.in-Run.ensures.is

pub tell-requires-clause-room : goal.tell-requires-clause-room
tell-requires-clause-room g c =
    room-told (texts c.args.words.now) (g.F.Shelf.files c.args.shelf.now) (g.S.Source.rest c.args.source.now)
    (g.K.Sink.admits c.args.sink.now) (g.met.K.Sink.admits_front c.args.sink.now) c.requires.room c.args.asked c.requires.asked
    (g.F.Shelf.faults c.args.shelf.now) (g.F.Shelf.faults c.task_of.new.shelf) c.in-Write.notice c.in-Write.ensures.is

pub end_generated-requires : goal.end_generated-requires
end_generated-requires g c =
    let ran = c.pump-pumped-in-RunGenerated in
    record {
      room = line-room c.args.asked (g.F.Shelf.faults c.args.shelf.now) (g.F.Shelf.faults c.task_of.new.shelf)
          c.in-RunGenerated.run' c.in-RunGenerated.ensures.is ran.new.source.rest ran.new.sink.got
          c.in-RunGenerated.run'.line.failing.faults ran.new.sink.failing.faults ran.result.ending ran.result.counts
          ran.result.journal.items ran.ensures (texts c.args.words.now) (g.F.Shelf.files c.args.shelf.now)
          (g.S.Source.rest c.args.source.now) (g.K.Sink.admits c.args.sink.now) c.requires.room c.requires.asked
          c.got.result.now c.got.ensures;
    }

pub returns-in-Run : goal.returns-in-Run
returns-in-Run g c =
    let ran = c.pump-pumped in
    came-run g.F.Shelf.files g.F.Shelf.faults g.S.Source.rest g.S.Source.faults g.K.Sink.got g.K.Sink.faults
    (texts c.args.words.now) c.args.shelf.now c.task_of.new.shelf c.args.source.now c.args.sink.now c.end_run.new.sink
    c.args.asked c.requires.asked c.task_of.ensures.untouched ran.new.source ran.new.sink (arc_value c.in-Run.job) c.in-Run.plan
    c.in-Run.ensures.is ran.result.ending ran.result.counts ran.result.journal.items ran.ensures
    c.end_run.result.status c.end_run.ensures.flushed c.end_run.result.journal.items c.end_run.ensures.journal

pub returns-in-RunGenerated : goal.returns-in-RunGenerated
returns-in-RunGenerated g c =
    let ran = c.pump-pumped-in-RunGenerated in
    came-generated g.F.Shelf.files g.F.Shelf.faults g.S.Source.rest g.S.Source.faults g.K.Sink.got g.K.Sink.faults
    (texts c.args.words.now) c.args.shelf.now c.task_of.new.shelf c.args.source.now c.args.sink.now c.end_generated.new.sink
    c.args.asked c.requires.asked c.task_of.ensures.untouched c.in-RunGenerated.run' c.in-RunGenerated.ensures.is
    ran.new.source.rest ran.new.sink.got c.in-RunGenerated.run'.line.failing.faults ran.new.sink.failing.faults
    ran.result.ending ran.result.counts ran.result.journal.items ran.ensures c.got.result.now c.got.ensures
    c.end_generated.result.status c.end_generated.ensures.wrote c.end_generated.result.journal.items
    c.end_generated.ensures.journal

pub returns-in-Write : goal.returns-in-Write
returns-in-Write g c =
    came-told g.F.Shelf.files g.F.Shelf.faults g.S.Source.rest g.S.Source.faults g.K.Sink.got g.K.Sink.faults
    (texts c.args.words.now) c.args.shelf.now c.task_of.new.shelf c.args.source.now c.args.sink.now c.tell.new.sink
    c.args.asked c.requires.asked c.task_of.ensures.untouched c.in-Write.notice c.tell.result c.without_run.result.status
    c.without_run.result.journal.items c.in-Write.ensures.is c.tell.ensures.wrote c.tell.ensures.status c.tell.ensures.memory
    c.tell.ensures.words c.without_run.ensures.status c.without_run.ensures.journal
