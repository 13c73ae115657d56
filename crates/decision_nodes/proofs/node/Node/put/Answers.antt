use Rattle.std.proofs.Common.{◌≡◌, ◌<◌, inl, inr, length, get_or, length-set, sym, ap, ◌∙◌, subst, arith}
use Rattle.hive_model.specs.Decision.{is_undecided}
use Rattle.decision_nodes.specs.Counting.{IsCountedBefore}
use Rattle.decision_nodes.specs.Standing.{Standing, heard}
use Rattle.decision_nodes.proofs.Counting.{counted_before}
use Rattle.decision_nodes.proofs.Standings.{heard_already, heard_new}
use Rattle.decision_nodes.proofs.node.Node.put.Goals as goal
use Rattle.decision_nodes.proofs.node.Node.put.Goals.{then-is_undecided-via-then-is_undecided, then-is_undecided-via-else-is_undecided+then-not-is_undecided}

pub index-was-requires : goal.index-was-requires
index-was-requires c =
    let members = ap (λ (n : Standing). length n.sequence.members) c.self.view_is in
    let filled = c.self.invariant.0 in
    omega (arith, members, filled, c.requires, c.self.inside.states.ok.0)

pub returns-then-is_undecided : goal.returns-then-is_undecided
returns-then-is_undecided c =
    let now : Standing = c.args.self.now in
    let was = c.index-was.result.now in
    let members = ap (λ (n : Standing). length n.sequence.members) c.self.view_is in
    let states = ap (λ (n : Standing). length n.states) c.self.view_is in
    let filled = c.self.invariant.0 in
    let read : was ≡ get_or now.states c.args.place was =
    c.index-was.ensures ∙ ap (λ (n : Standing). get_or n.states c.args.place was) c.self.view_is
    in
    ap (λ them. let it : Standing = record { sequence = now.sequence; states = them } in it)
    (sym (heard_already now.states c.args.place c.args.decision was (omega (arith, members, states, filled, c.requires)) read
    (elim c.then-is_undecided.branch [
      | then-is_undecided-via-then-is_undecided w ↦ inl (sym c.is_undecided.ensures ∙ w.if-is_undecided.true)
      | then-is_undecided-via-else-is_undecided+then-not-is_undecided w ↦
          inr (sym w.is_undecided-else-is_undecided.ensures ∙ w.if-not-is_undecided.true)
    ])))

pub counts_with-self-inside-requires : goal.counts_with-self-inside-requires
counts_with-self-inside-requires c =
    let states = c.self.inside.states.items in
    let was = c.index-was.result.now in
    let members = ap (λ (n : Standing). length n.sequence.members) c.self.view_is in
    let filled = c.self.invariant.0 in
    let whole = ap length c.as_slice.ensures.value ∙ length-set states c.args.place c.args.decision in
    let there : c.args.place < length states = omega (arith, members, filled, c.requires) in
    subst (λ them. IsCountedBefore c.self.inside.sequence them c.self.inside.counts c.args.decision) (sym c.as_slice.ensures.value)
    (counted_before c.self.inside.sequence states c.self.inside.counts c.args.place c.args.decision was (omega (arith, c.as_slice.type_inv.1, whole))
    c.self.invariant.1 there (ap is_undecided (sym c.index-was.ensures) ∙ sym c.if-not-is_undecided.ensures)
    (sym c.is_undecided.ensures ∙ c.if-is_undecided.false))

pub returns : goal.returns
returns c =
    let states = c.self.inside.states.items in
    let was = c.index-was.result.now in
    let members = ap (λ (n : Standing). length n.sequence.members) c.self.view_is in
    let filled = c.self.invariant.0 in
    ap (λ them. let it : Standing = record { sequence = c.self.inside.sequence; states = them } in it)
    (sym (heard_new states c.args.place c.args.decision was (omega (arith, members, filled, c.requires)) c.index-was.ensures
    (sym c.if-not-is_undecided.ensures)))
    ∙ ap (λ (n : Standing). heard n c.args.place c.args.decision) c.self.view_is
