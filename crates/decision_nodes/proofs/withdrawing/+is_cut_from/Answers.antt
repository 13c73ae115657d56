use Rattle.std.proofs.Common.{◌≡◌, ◌-◌, get_or, sym, ap, subst, ◌∙◌, arith}
use Rattle.decision_nodes.specs.Cutting.{is_cut_from}
use Rattle.decision_nodes.specs.Index.{IsAmong, places_at}
use Rattle.decision_nodes.specs.declared.edge.Edge.{Edge}
use Rattle.decision_nodes.proofs.Cuts.{cut_zero, cut_some, cut_none, cut_own, cut_above}
use Rattle.decision_nodes.proofs.Rising.{among_at}
use Rattle.decision_nodes.proofs.withdrawing.+is_cut_from.Goals as goal

pub returns-then-depth-eq0 : goal.returns-then-depth-eq0
returns-then-depth-eq0 t c = cut_zero c.args.nodes.now c.args.parents.now c.args.depth c.args.edges.now c.if-depth-eq0.true

pub is_cutting-requires : goal.is_cutting-requires
is_cutting-requires t c =
    let d : Edge = record { sequence = 0; place = 0 } in
    c.requires.edges (get_or c.args.edges.now c.loop-edge.edge-index d) (among_at c.args.edges.now c.loop-edge.edge-index d c.loop-edge-test.true)

pub returns-then-is_cutting : goal.returns-then-is_cutting
returns-then-is_cutting t c =
    let d : Edge = record { sequence = 0; place = 0 } in
    let e : Edge = get_or c.args.edges.now c.loop-edge.edge-index d in
    cut_some c.args.nodes.now c.args.parents.now c.args.depth c.args.edges.now c.loop-edge.edge-index d (omega arith) c.loop-edge-test.true
    (cut_own c.args.nodes.now c.args.parents.now (c.args.depth - 1) e (sym c.is_cutting.ensures ∙ c.if-is_cutting.true))

pub at-above-requires : goal.at-above-requires
at-above-requires t c =
    let d : Edge = record { sequence = 0; place = 0 } in
    let lt = c.requires.edges (get_or c.args.edges.now c.loop-edge.edge-index d) (among_at c.args.edges.now c.loop-edge.edge-index d c.loop-edge-test.true) in
    omega (arith, lt, c.requires.parents, c.from.ensures)

pub is_cut_from-requires : goal.is_cut_from-requires
is_cut_from-requires t c = (
  omega arith,
  (
    c.requires.parents,
    (λ e among. c.requires.above c.from.result e (subst (IsAmong e) c.at-above.ensures among), c.requires.above),
  ),
)

pub returns-then-is_cut_from : goal.returns-then-is_cut_from
returns-then-is_cut_from t c =
    let d : Edge = record { sequence = 0; place = 0 } in
    let e : Edge = get_or c.args.edges.now c.loop-edge.edge-index d in
    let list : c.at-above.result.now ≡ places_at c.args.parents.now e.sequence = c.at-above.ensures ∙ ap (places_at c.args.parents.now) c.from.ensures in
    cut_some c.args.nodes.now c.args.parents.now c.args.depth c.args.edges.now c.loop-edge.edge-index d (omega arith) c.loop-edge-test.true
    (cut_above c.args.nodes.now c.args.parents.now (c.args.depth - 1) e
    (ap (is_cut_from c.args.nodes.now c.args.parents.now (c.args.depth - 1)) (sym list) ∙ sym c.is_cut_from.ensures ∙ c.if-is_cut_from.true))

pub returns : goal.returns
returns t c =
    cut_none c.args.nodes.now c.args.parents.now c.args.depth c.args.edges.now c.loop-edge.edge-index (omega arith) c.loop-edge-test.false c.loop-edge.invariant
