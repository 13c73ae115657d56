use Rattle.std.proofs.Common.{length, ap, arith}
use Rattle.decision_nodes.specs.Standing.{Standing}
use Rattle.decision_nodes.proofs.Counting.{entered_within}
use Rattle.decision_nodes.proofs.node.Node.entered.Goals as goal

pub returns-clause-within : goal.returns-clause-within
returns-clause-within c =
    let same = ap (λ (n : Standing). length n.sequence.members) c.self.view_is in
    let few = entered_within c.self.inside.sequence c.as_slice.result.now in
    omega (arith, same, few, c.count_entered.ensures)
