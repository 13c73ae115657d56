use Rattle.std.proofs.Common.{length, Err, sym, ap, ◌∙◌, arith}
use Rattle.std.proofs.lemmas.Result.{err_from_is_err_and}
use Rattle.hive_model.specs.Same.{same_kind}
use Rattle.text_model.specs.declared.expr_refusal.ExprRefusal.TheVariants as refusals
use Rattle.text_laws.proofs.Reading.{read-valid}
use Rattle.expr_text.proofs.Building.Phases.{tree_of_kind-many, tree_of_kind-wanted, tree_of_kind-unwanted, tree_of_kind-refused, length-postfix, postfix-last, tree-refused, tree-read}
use Rattle.expr_text.proofs.parser.nodes.Goals as goal

pub returns-then-parts-gt-MOST_NODES-clause-meaning : goal.returns-then-parts-gt-MOST_NODES-clause-meaning
returns-then-parts-gt-MOST_NODES-clause-meaning c =
    λ w e h. tree_of_kind-many c.args.text.now c.args.names.now c.args.wanted w (omega (arith, length-postfix w, ap length e))

pub returns-in_err-nodes-clause-meaning : goal.returns-in_err-nodes-clause-meaning
returns-in_err-nodes-clause-meaning c =
    let p = err_from_is_err_and c.from_residual.result c.from_residual.ensures.1 in
    rw (p.1, p.2) (λ w e h.
    tree_of_kind-refused c.args.text.now c.args.names.now c.args.wanted w _ (omega (arith, length-postfix w, ap length e))
    (tree-refused c.args.text.now c.args.names.now w _ (rw e at (c.in_err-nodes.ensures h))))

pub returns-then-is_kind-clause-meaning : goal.returns-then-is_kind-clause-meaning
returns-then-is_kind-clause-meaning c = λ w e.
    let read = tree-read c.args.text.now c.args.names.now w _ _ (rw e at c.in_ok-nodes.ensures) in
    let kind = c.kind_of.ensures _ (c.as_slice.ensures.value ∙ read.slots_are) in (
      read.tree,
      tree_of_kind-wanted c.args.text.now c.args.names.now c.args.wanted w read.tree read.kind (omega (arith, length-postfix w, ap length e)) read.written (sym (c.if-is_kind.ensures ∙ ap (same_kind c.args.wanted) kind)),
      c.from_vec.ensures.items ∙ read.nodes_are,
    )

pub returns-else-is_kind-clause-meaning : goal.returns-else-is_kind-clause-meaning
returns-else-is_kind-clause-meaning c = λ w e h.
    let read = tree-read c.args.text.now c.args.names.now w _ _ (rw e at c.in_ok-nodes.ensures) in
    let kind = c.kind_of.ensures _ (c.as_slice.ensures.value ∙ read.slots_are) in
    let last = postfix-last w in
    let place = c.place_of.ensures last.0 last.1 (e ∙ last.2) ∙ last.3 in
    tree_of_kind-unwanted c.args.text.now c.args.names.now c.args.wanted w read.tree read.kind (omega (arith, length-postfix w, ap length e)) read.written (sym (c.if-is_kind.ensures ∙ ap (same_kind c.args.wanted) kind))
    ∙ ap (λ n. Err (refusals.Kind n)) (sym place)

pub returns-then-is_kind-clause-valid : goal.returns-then-is_kind-clause-valid
returns-then-is_kind-clause-valid c = λ w e see known.
    let read = tree-read c.args.text.now c.args.names.now w _ _ (rw e at c.in_ok-nodes.ensures) in
    let kind = c.kind_of.ensures _ (c.as_slice.ensures.value ∙ read.slots_are) in
    rw (c.from_vec.ensures.items ∙ read.nodes_are)
    (read-valid see c.args.text.now c.args.names.now c.args.wanted w read.tree read.kind known (omega (arith, length-postfix w, ap length e)) read.written
    (sym (c.if-is_kind.ensures ∙ ap (same_kind c.args.wanted) kind)))
