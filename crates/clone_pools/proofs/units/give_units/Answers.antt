use Rattle.std.proofs.Common.{◌+◌, ◌<◌, arith, length-set, ◌∙◌}
use Rattle.clone_pools.proofs.Naming.{item-within, unit-fits, units-given}
use Rattle.clone_pools.proofs.units.give_units.Goals as goal

pub overflow_add-index_mut : goal.overflow_add-index_mut
overflow_add-index_mut c =
    let fits : c.index_mut.result.now + 1 < 256 =
    unit-fits c.loop-resource.left.items c.args.left.now.items c.args.resources.now c.loop-resource.resource-index c.from.result c.index_mut.result.now
    c.loop-resource-test.true c.requires.differ c.from.ensures
    (item-within c.args.resources.now c.loop-resource.resource-index c.from.result _ _ c.loop-resource-test.true c.from.ensures
    c.loop-resource.invariant.lengths c.requires.within)
    c.index_mut.ensures.value c.loop-resource.invariant.units c.requires.room in
    omega arith

pub loop-resource-preserved : goal.loop-resource-preserved
loop-resource-preserved c = record {
  lengths = length-set c.loop-resource.left.items c.from.result _ ∙ c.loop-resource.invariant.lengths;
  units = units-given c.loop-resource.left.items c.args.left.now.items c.args.resources.now c.loop-resource.resource-index c.from.result c.index_mut.result.now
      c.loop-resource-test.true c.requires.differ c.from.ensures
      (item-within c.args.resources.now c.loop-resource.resource-index c.from.result _ _ c.loop-resource-test.true c.from.ensures
      c.loop-resource.invariant.lengths c.requires.within)
      c.index_mut.ensures.value c.loop-resource.invariant.units;
}
