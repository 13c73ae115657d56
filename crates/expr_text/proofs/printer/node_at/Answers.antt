use Rattle.std.proofs.lemmas.Option.{slice_get_within}
use Rattle.expr_text.proofs.Printing.NodeLists.{tree_within-there}
use Rattle.expr_text.proofs.printer.node_at.Goals as goal

pub at-requires : goal.at-requires
at-requires c =
    let there = tree_within-there _ _ _ c.requires.0 c.requires.1 in
    slice_get_within _ _ there.0 there.1

pub returns-clause-high : goal.returns-clause-high
returns-clause-high c = (tree_within-there _ _ _ c.requires.0 c.requires.1).2
