use Rattle.hive_top.proofs.Tracing.{traced-none}
use Rattle.hive_top.proofs.trace.trace_run.Goals as goal

pub returns-then-is_nothing-clause-traced : goal.returns-then-is_nothing-clause-traced
returns-then-is_nothing-clause-traced g c = λ asked.
    traced-none c.args.ran.status (g.T.Sink.got c.args.trace.now) c.args.ran.journal.items
    (λ h. c.is_nothing.ensures.none c.if-is_nothing.true h)
