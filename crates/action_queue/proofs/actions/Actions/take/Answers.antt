use Rattle.std.proofs.Common.{arith}
use Rattle.action_queue.proofs.Keeps.{takes, knows}
use Rattle.action_queue.proofs.actions.Actions.take.Goals as goal

pub pop_as-requires-clause-rule : goal.pop_as-requires-clause-rule
pop_as-requires-clause-rule g c =
    let one = c.args.pass.now.one in
    (takes _ _ (omega arith), knows _ _ (omega arith))
