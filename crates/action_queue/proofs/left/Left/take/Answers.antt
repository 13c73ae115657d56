use Rattle.action_queue.proofs.Keeps.{takes, knows}
use Rattle.action_queue.proofs.left.Left.take.Goals as goal

pub pop_as-requires-clause-rule : goal.pop_as-requires-clause-rule
pop_as-requires-clause-rule g c = (takes _ _ c.args.self.now.some, knows _ _ c.args.self.now.some)
