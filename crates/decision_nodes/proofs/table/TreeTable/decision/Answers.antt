use Rattle.std.proofs.Common.{length, slice_get, ap, sym, ◌∙◌, arith}
use Rattle.decision_nodes.specs.Tree.{Tree}
use Rattle.decision_nodes.specs.Marks.{marked}
use Rattle.decision_nodes.proofs.Hearing.{same_length}
use Rattle.decision_nodes.proofs.Meaning.{table_decision}
use Rattle.decision_nodes.proofs.table.TreeTable.decision.Goals as goal

pub node_at-requires : goal.node_at-requires
node_at-requires c =
    let sequences = ap (λ (t : Tree). length t.sequences) c.self.view_is in
    let count = same_length c.self.inside.nodes.items in
    let slice = ap length c.as_slice.ensures.value in
    omega (arith, sequences, count, slice, c.requires)

pub returns : goal.returns
returns c =
    let nodes = c.self.inside.nodes.items in
    c.decision.ensures
    ∙ table_decision nodes c.self.inside.leaves c.self.inside.parents c.self.inside.outcomes.items c.self.inside.top (marked c.self.inside.marks)
    c.self.invariant.0 c.args.self.now (sym c.self.view_is) c.args.sequence c.node_at.result.now
    (ap (λ them. slice_get them c.args.sequence) (sym c.as_slice.ensures.value) ∙ c.node_at.ensures)
