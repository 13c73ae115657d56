use Rattle.std.proofs.Common.{arith}
use Rattle.action_queue.proofs.Joins.{names}
use Rattle.action_queue.proofs.actions.named.Goals as goal

pub another-requires-clause-rule : goal.another-requires-clause-rule
another-requires-clause-rule g c =
    let picked = c.requires.picked in
    let some = c.requires.some in
    names _ _ _ _ _ c.requires.first picked.0 (omega arith)
