use Rattle.std.proofs.Common.{refl, subst}
use Rattle.hive_model.specs.Job.{Job}
use Rattle.hive_pump.specs.Written.{MayWrite}
use Rattle.hive_pump.proofs.Pumping.{as-told, ends-unread}
use Rattle.hive_pump.proofs.beside.pump.Goals as goal

pub returns-in_default : goal.returns-in_default
returns-in_default g c =
    as-told _ _ _ _ _ _ _ _ _ _ _ _ _ _ _ _ _
    (ends-unread g.S.Source.rest g.S.Source.faults g.K.Sink.got g.K.Sink.faults _ _ _
    c.args.source.now c.args.sink.now c.nothing.result.counts c.nothing.result.journal.items
    c.nothing.ensures.counts c.nothing.ensures.journal)
    c.nothing.ensures.ending refl refl

pub run_all-requires-clause-room : goal.run_all-requires-clause-room
run_all-requires-clause-room g c κs within = λ text may.
    c.requires.room text
    (subst (λ (j : Job). MayWrite j c.args.plan.now.brief (g.S.Source.rest c.args.source.now) text)
    c.deref-in-Ok-prepare.ensures may)

pub returns : goal.returns
returns g c =
    as-told _ _ _ _ _ _ _ _ _ _ _ _ _ _ _ _ _
    (ends-unread g.S.Source.rest g.S.Source.faults g.K.Sink.got g.K.Sink.faults _ _ _
    c.args.source.now c.args.sink.now c.nothing-in-Err.result.counts c.nothing-in-Err.result.journal.items
    c.nothing-in-Err.ensures.counts c.nothing-in-Err.ensures.journal)
    c.nothing-in-Err.ensures.ending refl refl
