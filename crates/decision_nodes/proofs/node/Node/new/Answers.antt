use Rattle.std.proofs.Common.{length, refl, sym, ap, ◌∙◌, subst}
use Rattle.hive_model.specs.Decision.{node_decision}
use Rattle.decision_nodes.specs.Counting.{IsCounted}
use Rattle.decision_nodes.proofs.Standings.{fresh_counted}
use Rattle.decision_nodes.proofs.node.Node.new.Goals as goal

pub node_decision-decision-requires : goal.node_decision-decision-requires
node_decision-decision-requires c =
    let members = length c.members-members.result.now in
    let counted =
    fresh_counted c.in_ok-sequence.sequence c.in_ok-states.states.items members members
    c.counts_of_none-counts.result (ap length c.members-members.ensures) c.in_ok-states.ensures refl c.counts_of_none-counts.ensures
    in
    subst (λ them. IsCounted c.in_ok-sequence.sequence them c.counts_of_none-counts.result) (sym c.as_slice.ensures.value) counted.1

pub invariant_of-result : goal.invariant_of-result
invariant_of-result c =
    let members = length c.members-members.result.now in
    let counted =
    fresh_counted c.in_ok-sequence.sequence c.in_ok-states.states.items members members
    c.counts_of_none-counts.result (ap length c.members-members.ensures) c.in_ok-states.ensures refl c.counts_of_none-counts.ensures
    in (
      counted.0,
      counted.1,
      c.node_decision-decision.ensures ∙ ap (node_decision c.in_ok-sequence.sequence) c.as_slice.ensures.value,
    )
