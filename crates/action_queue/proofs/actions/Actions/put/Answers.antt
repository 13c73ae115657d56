use Rattle.std.proofs.Common.{arith}
use Rattle.action_queue.proofs.Keeps.{puts, knows}
use Rattle.action_queue.proofs.actions.Actions.put.Goals as goal

pub push_as-requires-clause-rule : goal.push_as-requires-clause-rule
push_as-requires-clause-rule g c =
    let one = c.args.pass.now.one in (
      puts _ _ _ _ _ c.args.self.now.sized (omega arith) c.requires.pass.1 c.requires.of_job,
      knows _ _ (omega arith),
    )
