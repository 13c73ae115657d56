use Rattle.std.proofs.Common.{◌∙◌}
use Rattle.hive_hall.proofs.Dealing.{begins, news, opens-legally, slots-of}
use Rattle.hive_hall.proofs.hall.Hall.new.Goals as goal

pub deal-requires-clause-lock : goal.deal-requires-clause-lock
deal-requires-clause-lock c =
    let it = c.in-Ok-new.ensures in
    begins _ _ c.args.desk c.args.passes it.pass.0 it.pass.1 (it.rights.0 ∙ c.from.ensures)
    (it.rights.1 ∙ c.from.ensures) it.opening it.seen it.own

pub deal-requires-clause-legal : goal.deal-requires-clause-legal
deal-requires-clause-legal c =
    opens-legally _ c.in-Ok.queue c.args.desk c.in-Ok-new.ensures.opening c.in-Ok.ensures.job c.in-Ok.ensures.desk

pub returns-in-Ok-new-clause-slots : goal.returns-in-Ok-new-clause-slots
returns-in-Ok-new-clause-slots c =
    slots-of _ _ c.deal.result.0 c.args.desk c.deal.ensures.hall c.in-Ok-new.ensures.opening

pub returns-in-Ok-new-clause-passes : goal.returns-in-Ok-new-clause-passes
returns-in-Ok-new-clause-passes c =
    news _ _ c.deal.result.0 c.args.desk c.deal.result.1.items c.deal.ensures.hall c.in-Ok-new.ensures.opening
    c.deal.ensures.passes
