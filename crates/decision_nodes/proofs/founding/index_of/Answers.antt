use Rattle.std.proofs.Common.{ℕ, Some, length, slice_get, sym, ap, subst, ◌∙◌}
use Rattle.std.proofs.lemmas.Option.{slice_get-get_or}
use Rattle.decision_nodes.specs.Index.{IsIn}
use Rattle.decision_nodes.specs.declared.edge.Edge.{Edge}
use Rattle.decision_nodes.proofs.Indexing.{index_more}
use Rattle.decision_nodes.proofs.founding.index_of.Goals as goal

pub add_members-requires : goal.add_members-requires
add_members-requires c = λ i m at.
    let number : ℕ = c.loop-number.number in
    let q = c.index-sequences-number.result in
    let there = slice_get-get_or c.args.sequences.now number q c.loop-number-test.true ∙ ap Some (sym c.index-sequences-number.is) in
    let e : Edge = record { sequence = number; place = i } in
    subst (λ k. IsIn k (length c.loop-number.index.parents) m) (sym c.loop-number.invariant.all_leaves)
    (subst (λ k. IsIn c.args.algorithms k m) (sym c.loop-number.invariant.all_parents)
    (c.requires.members e m (record { node = q; there = there; stands = ap (λ them. slice_get them i) (sym c.members.ensures) ∙ at })))

pub loop-number-preserved : goal.loop-number-preserved
loop-number-preserved c =
    let number : ℕ = c.loop-number.number in
    let q = c.index-sequences-number.result in
    let there = slice_get-get_or c.args.sequences.now number q c.loop-number-test.true ∙ ap Some (sym c.index-sequences-number.is) in
    let now = c.loop-number.invariant in
    let added = c.in_ok-add_members.ensures in
    record {
      is_index =
          index_more c.args.sequences.now number q c.members.result.now c.loop-number.index.leaves c.loop-number.index.parents
          c.add_members.new.index.leaves c.add_members.new.index.parents there c.members.ensures now.is_index added;
      all_leaves = added.leaves_stay ∙ now.all_leaves;
      all_parents = added.parents_stay ∙ now.all_parents;
    }
