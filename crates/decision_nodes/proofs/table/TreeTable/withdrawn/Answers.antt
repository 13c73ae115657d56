use Rattle.std.proofs.Common.{length, sym, ap, ap₂, subst, ◌∙◌, arith}
use Rattle.hive_model.specs.declared.limits.TheConstants.{MOST_DEPTH}
use Rattle.decision_nodes.specs.Cutting.{is_cut_from}
use Rattle.decision_nodes.specs.Index.{IsAmong, places_at}
use Rattle.decision_nodes.specs.Marks.{marked, sequences_of}
use Rattle.decision_nodes.specs.Tree.{Tree, is_withdrawn_in}
use Rattle.decision_nodes.proofs.Hearing.{same_length}
use Rattle.decision_nodes.proofs.Standings.{get_within}
use Rattle.decision_nodes.proofs.Withdrawn.{nothing_cut, table_withdrawn}
use Rattle.decision_nodes.proofs.table.TreeTable.withdrawn.Goals as goal

pub is_cut_from-requires-clause-edges : goal.is_cut_from-requires-clause-edges
is_cut_from-requires-clause-edges c = λ e among.
    let nodes = c.self.inside.nodes.items in
    let at = c.self.invariant.0.leaves_right e c.from.result (subst (IsAmong e) c.at-places.ensures among) in
    let within = get_within (sequences_of nodes) e.sequence at.node at.there in
    omega (arith, within, same_length nodes, ap length c.as_slice.ensures.value)

pub is_cut_from-requires-clause-above : goal.is_cut_from-requires-clause-above
is_cut_from-requires-clause-above c = λ s e among.
    let nodes = c.self.inside.nodes.items in
    let at = c.self.invariant.0.forest.parents_right e s among in
    let within = get_within (sequences_of nodes) e.sequence at.node at.there in
    omega (arith, within, same_length nodes, ap length c.as_slice.ensures.value)

pub returns-then-not-self : goal.returns-then-not-self
returns-then-not-self c =
    let nodes = c.self.inside.nodes.items in
    let none = sym c.self.invariant.1 ∙ c.if-not-self.true in
    sym (nothing_cut nodes c.self.inside.parents MOST_DEPTH (places_at c.self.inside.leaves c.args.algorithm) none)
    ∙ table_withdrawn nodes c.self.inside.leaves c.self.inside.parents c.self.inside.outcomes.items c.self.inside.top (marked c.self.inside.marks)
    c.self.invariant.0 c.args.algorithm
    ∙ ap (λ (t : Tree). is_withdrawn_in t c.args.algorithm) c.self.view_is

pub returns : goal.returns
returns c =
    let nodes = c.self.inside.nodes.items in
    c.is_cut_from.ensures
    ∙ ap₂ (λ them list. is_cut_from them c.self.inside.parents MOST_DEPTH list) c.as_slice.ensures.value
    (c.at-places.ensures ∙ ap (places_at c.self.inside.leaves) c.from.ensures)
    ∙ table_withdrawn nodes c.self.inside.leaves c.self.inside.parents c.self.inside.outcomes.items c.self.inside.top (marked c.self.inside.marks)
    c.self.invariant.0 c.args.algorithm
    ∙ ap (λ (t : Tree). is_withdrawn_in t c.args.algorithm) c.self.view_is
