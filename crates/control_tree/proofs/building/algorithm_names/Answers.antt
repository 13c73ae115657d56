use Rattle.std.proofs.Common.{sym, ap, get_or, ◌∙◌}
use Rattle.control_tree.proofs.Distinct.{name-added, named}
use Rattle.control_tree.proofs.building.algorithm_names.Goals as goal

pub loop-name-preserved : goal.loop-name-preserved
loop-name-preserved c =
    name-added c.args.algorithms.now c.loop-name.names c.add.new.self c.loop-name.name-index c.as_str.result.now c.in_ok-add.field-0
    c.requires c.loop-name-test.true (named c.args.algorithms.now c.loop-name.name-index c.as_str.result.now c.name-item.result c.as_str.ensures c.name-item.is) c.loop-name.invariant c.in_ok-add.ensures.new c.in_ok-add.ensures.added
