use Rattle.std.proofs.Common.{sym, ◌∙◌}
use Rattle.serial_meaning.proofs.Nodes.{decision-leaf}
use Rattle.serial_meaning.proofs.decision.decision.Goals as goal

pub returns-in-Alg : goal.returns-in-Alg
returns-in-Alg c =
    rw c.in-Alg.is (c.leaf_decision.ensures ∙ sym (decision-leaf c.args.job.now c.args.outcomes.now c.in-Alg.leaf))
