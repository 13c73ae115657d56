use Rattle.std.proofs.Common.{sym, ◌∙◌}
use Rattle.decision_nodes.specs.Marks.{marked}
use Rattle.decision_nodes.proofs.Meaning.{table_reached}
use Rattle.decision_nodes.proofs.table.TreeTable.reached.Goals as goal

pub returns : goal.returns
returns c =
    c.contains.ensures
    ∙ table_reached c.self.inside.nodes.items c.self.inside.leaves c.self.inside.parents c.self.inside.outcomes.items c.self.inside.top
    (marked c.self.inside.marks) c.self.invariant.0 c.args.self.now (sym c.self.view_is) c.args.algorithm
