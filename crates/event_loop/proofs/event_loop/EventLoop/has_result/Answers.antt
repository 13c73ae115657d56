use Rattle.std.proofs.Common.{◌<◌, ◌∙◌, length, subst, sym}
use Rattle.event_loop.proofs.Loops.{next-ended, waits-within}
use Rattle.event_loop.proofs.event_loop.EventLoop.has_result.Goals as goal
use Rattle.event_loop.specs.Loop.{LoopState, NextHasEnded}

pub returns-clause-waits : goal.returns-clause-waits
returns-clause-waits c = λ h.
    subst (λ (x : LoopState). x.handed < length x.desk.admitted) c.self.view_is
    (waits-within _ _ _ _ c.self.invariant.running (sym c.has_first.ensures ∙ h))

pub returns-clause-ended : goal.returns-clause-ended
returns-clause-ended c =
    subst (λ (x : LoopState). NextHasEnded x c.has_first.result) c.self.view_is
    (next-ended _ _ _ _ _ c.self.invariant.running c.has_first.ensures)
