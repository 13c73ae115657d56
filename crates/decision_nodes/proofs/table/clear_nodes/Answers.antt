use Rattle.std.proofs.Common.{◌≡◌, ℕ, ◌<◌, Some, length, set, map, slice_get, refl, sym, ap, ◌∙◌, arith}
use Rattle.std.proofs.lemmas.Option.{slice_get-get_or}
use Rattle.decision_nodes.specs.Marks.{sequences_of}
use Rattle.decision_nodes.specs.Standing.{Standing, fresh}
use Rattle.decision_nodes.proofs.Beginning.{cleared_all, cleared_more}
use Rattle.decision_nodes.proofs.Hearing.{same_length, sequences_stay}
use Rattle.decision_nodes.proofs.table.clear_nodes.Goals as goal

pub loop-number-preserved : goal.loop-number-preserved
loop-number-preserved c =
    let nodes = c.loop-number.nodes.items in
    let k : ℕ = c.loop-number.number in
    let x : Standing = c.index_mut-node.result.now in
    let long = ap length c.loop-number.invariant.same in
    let lt : k < length nodes =
    omega (arith, long, same_length nodes, same_length c.args.nodes.now.items, c.loop-number-test.true, c.len-number-end.ensures, c.args.nodes.now.ok.0)
    in
    let there : slice_get nodes k ≡ Some x = slice_get-get_or nodes k x lt ∙ ap Some (sym c.index_mut-node.ensures.value) in
    let same : sequences_of (set nodes k (fresh x.sequence)) ≡ sequences_of c.args.nodes.now.items =
    sequences_stay nodes k x (fresh x.sequence) there refl ∙ c.loop-number.invariant.same
    in
    record {
      same = ap (λ y. sequences_of (set nodes k y)) c.clear.ensures ∙ same;
      cleared = λ i n less e.
          cleared_more nodes k x there c.loop-number.invariant.cleared i n less (ap (λ y. slice_get (set nodes k y) i) (sym c.clear.ensures) ∙ e);
    }

pub returns : goal.returns
returns c =
    let nodes = c.loop-number.nodes.items in
    let long = ap length c.loop-number.invariant.same in
    cleared_all nodes (λ i n less e.
    c.loop-number.invariant.cleared i n
    (omega (arith, less, long, same_length nodes, same_length c.args.nodes.now.items, c.loop-number-test.false, c.len-number-end.ensures, c.args.nodes.now.ok.0)) e)
    ∙ ap (map fresh) c.loop-number.invariant.same
