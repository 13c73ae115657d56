use Rattle.std.proofs.Common.{sym, ◌∙◌}
use Rattle.scheduler_core.proofs.claiming.nothing.Goals as goal
use Rattle.scheduler_core.proofs.claiming.nothing.Goals.{else-closed-via-then-closed+else-empty, else-closed-via-else-closed}

pub returns-then-empty : goal.returns-then-empty
returns-then-empty c = λ job machine slots.
    (c.if-closed.true, sym (c.is_empty-empty.ensures job machine slots) ∙ c.if-empty.true)

pub returns : goal.returns
returns c = λ job machine slots. (
  λ both. elim c.else-closed.branch [
    | else-closed-via-then-closed+else-empty w ↦
        cc (w.if-empty.false, c.is_empty-empty.ensures job machine slots, both.1)
    | else-closed-via-else-closed w ↦ cc (w.if-closed.false, both.0)
  ],
  c.outstanding.ensures job machine slots,
)
