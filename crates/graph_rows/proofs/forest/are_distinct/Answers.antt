use Rattle.std.proofs.Common.{◌∙◌, ap}
use Rattle.text_model.specs.Forest.{Branch}
use Rattle.graph_rows.proofs.DistinctNames.{added-branch, added-distinct, added-name, none-distinct}
use Rattle.graph_rows.proofs.forest.are_distinct.Goals as goal

pub loop-name-init : goal.loop-name-init
loop-name-init c = record { names = c.new-names.ensures; differ = none-distinct c.new-names.result c.new-names.ensures }

pub loop-name-preserved : goal.loop-name-preserved
loop-name-preserved c = record {
  names = added-name c.args.algorithms.now c.loop-name.names c.add.new.self c.loop-name.name-index c.name-item.result c.as_str.result.now c.in_ok-add.field-0
      c.loop-name-test.true c.name-item.is c.as_str.ensures c.loop-name.invariant.names c.if-not-branch.false c.in_ok-add.ensures.added;
  differ = added-distinct c.loop-name.names c.add.new.self c.as_str.result.now c.in_ok-add.field-0 c.loop-name.invariant.differ c.in_ok-add.ensures.new
      c.if-not-branch.false c.in_ok-add.ensures.added;
}

pub loop-branch-preserved : goal.loop-branch-preserved
loop-branch-preserved c = record {
  names = added-branch c.args.algorithms.now c.args.branches.now c.loop-branch.names c.add-in-loop-branch.new.self c.loop-branch.branch-index
      c.branch-item.result c.as_str-in-loop-branch.result.now c.in_ok-add-2.field-0 c.loop-branch-test.true c.branch-item.is
      (c.as_str-in-loop-branch.ensures ∙ ap (λ (b : Branch). b.name) c.branch.view_is) c.loop-branch.invariant.names c.if-not-branch-2.false
      c.in_ok-add-2.ensures.added;
  differ = added-distinct c.loop-branch.names c.add-in-loop-branch.new.self c.as_str-in-loop-branch.result.now c.in_ok-add-2.field-0
      c.loop-branch.invariant.differ c.in_ok-add-2.ensures.new c.if-not-branch-2.false c.in_ok-add-2.ensures.added;
}
