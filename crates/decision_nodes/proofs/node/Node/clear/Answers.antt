use Rattle.std.proofs.Common.{◌≡◌, length, sym, ap, ◌∙◌, subst, arith}
use Rattle.std.proofs.lemmas.List.{length-replicate}
use Rattle.hive_model.specs.Decision.{node_decision}
use Rattle.hive_model.specs.declared.decision.Decision.TheVariants.{Undecided}
use Rattle.decision_nodes.specs.Counting.{IsCounted}
use Rattle.decision_nodes.proofs.Standings.{fresh_counted}
use Rattle.decision_nodes.proofs.node.Node.clear.Goals as goal

pub node_decision-self-inside-requires : goal.node_decision-self-inside-requires
node_decision-self-inside-requires c =
    let n = length c.self.inside.states.items in
    let whole = ap length c.forget.ensures ∙ length-replicate n Undecided in
    let count : c.len.result ≡ n = omega (arith, c.len.ensures, c.forget.new.states.ok.0, whole) in
    let counted =
    fresh_counted c.self.inside.sequence c.forget.new.states.items n c.len.result
    c.counts_of_none-self-inside.result c.self.invariant.0 c.forget.ensures count c.counts_of_none-self-inside.ensures
    in
    subst (λ them. IsCounted c.self.inside.sequence them c.counts_of_none-self-inside.result) (sym c.as_slice.ensures.value) counted.1

pub invariant_of-self : goal.invariant_of-self
invariant_of-self c =
    let n = length c.self.inside.states.items in
    let whole = ap length c.forget.ensures ∙ length-replicate n Undecided in
    let count : c.len.result ≡ n = omega (arith, c.len.ensures, c.forget.new.states.ok.0, whole) in
    let counted =
    fresh_counted c.self.inside.sequence c.forget.new.states.items n c.len.result
    c.counts_of_none-self-inside.result c.self.invariant.0 c.forget.ensures count c.counts_of_none-self-inside.ensures
    in (
      counted.0,
      counted.1,
      c.node_decision-self-inside.ensures ∙ ap (node_decision c.self.inside.sequence) c.as_slice.ensures.value,
    )
