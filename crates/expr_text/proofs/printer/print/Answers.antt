use Rattle.std.proofs.Common.{◌++◌, ap, ◌∙◌}
use Rattle.expr_text.specs.Printed.{printed}
use Rattle.expr_text.proofs.Printing.NodeLists.{tree_within-nodes_of, nodes_of-some}
use Rattle.expr_text.proofs.Printing.ReadBack.{expr_of-printed}
use Rattle.expr_text.proofs.printer.print.Goals as goal

pub overflow_sub-nodes : goal.overflow_sub-nodes
overflow_sub-nodes c = nodes_of-some c.requires.0 _ (c.nodes-nodes.ensures ∙ c.requires.1)

pub show-requires : goal.show-requires
show-requires c = (c.requires.0, tree_within-nodes_of c.requires.0 _ (c.nodes-nodes.ensures ∙ c.requires.1))

pub returns-clause-text : goal.returns-clause-text
returns-clause-text c = λ t e.
    c.from_string.ensures
    ∙ (c.in_ok-show.ensures t (tree_within-nodes_of t _ (c.nodes-nodes.ensures ∙ e))
    ∙ ap (λ xs. xs ++ printed c.args.names.now t) c.new-out.ensures.bytes)

pub returns-clause-read_back : goal.returns-clause-read_back
returns-clause-read_back c = λ t k e is nest.
    let text = returns-clause-text c t e in
    rw text (λ short. expr_of-printed c.args.names.now t k is short nest)
