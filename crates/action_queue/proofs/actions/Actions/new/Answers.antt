use Rattle.std.proofs.Common.{ap, arith}
use Rattle.action_queue.specs.declared.view.Tally.{Tally}
use Rattle.action_queue.proofs.Joins.{begins, deals}
use Rattle.action_queue.proofs.actions.Actions.new.Goals as goal

pub ruled-requires-clause-rule : goal.ruled-requires-clause-rule
ruled-requires-clause-rule c = begins

pub another-seat-requires-clause-rule : goal.another-seat-requires-clause-rule
another-seat-requires-clause-rule c =
    let is = c.loop.invariant.1 in
    let parts = ap (λ (u : Tally). u.parts) is in
    deals _ _ _ (omega arith) (ap (λ (u : Tally). u.job) is)
