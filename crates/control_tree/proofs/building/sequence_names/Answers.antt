use Rattle.control_tree.proofs.Distinct.{branch-added}
use Rattle.control_tree.proofs.building.sequence_names.Goals as goal

pub loop-branch-preserved : goal.loop-branch-preserved
loop-branch-preserved c =
    branch-added c.args.branches.now c.loop-branch.names c.add.new.self c.loop-branch.branch-index c.branch-item.result c.name.result.now c.in_ok-add.field-0
    c.requires c.loop-branch-test.true c.branch-item.is c.name.ensures c.loop-branch.invariant c.in_ok-add.ensures.new c.in_ok-add.ensures.added
