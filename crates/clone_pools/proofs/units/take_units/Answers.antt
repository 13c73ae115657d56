use Rattle.std.proofs.Common.{◌<◌, arith, length-set, ◌∙◌}
use Rattle.clone_pools.proofs.Naming.{item-within, unit-there, units-taken}
use Rattle.clone_pools.proofs.units.take_units.Goals as goal

pub overflow_sub-index_mut : goal.overflow_sub-index_mut
overflow_sub-index_mut c =
    let some : 0 < c.index_mut.result.now =
    unit-there c.loop-resource.left.items c.args.left.now.items c.args.resources.now c.loop-resource.resource-index c.from.result c.index_mut.result.now
    c.loop-resource-test.true c.requires.differ c.from.ensures
    (item-within c.args.resources.now c.loop-resource.resource-index c.from.result _ _ c.loop-resource-test.true c.from.ensures
    c.loop-resource.invariant.lengths c.requires.within)
    c.index_mut.ensures.value c.loop-resource.invariant.units c.requires.there in
    omega arith

pub loop-resource-preserved : goal.loop-resource-preserved
loop-resource-preserved c =
    let within = (item-within c.args.resources.now c.loop-resource.resource-index c.from.result _ _ c.loop-resource-test.true c.from.ensures
    c.loop-resource.invariant.lengths c.requires.within) in
    let some = unit-there c.loop-resource.left.items c.args.left.now.items c.args.resources.now c.loop-resource.resource-index c.from.result c.index_mut.result.now
    c.loop-resource-test.true c.requires.differ c.from.ensures within c.index_mut.ensures.value c.loop-resource.invariant.units c.requires.there in
    record {
      lengths = length-set c.loop-resource.left.items c.from.result _ ∙ c.loop-resource.invariant.lengths;
      units = units-taken c.loop-resource.left.items c.args.left.now.items c.args.resources.now c.loop-resource.resource-index c.from.result c.index_mut.result.now
          c.loop-resource-test.true c.requires.differ c.from.ensures within c.index_mut.ensures.value some c.loop-resource.invariant.units;
    }
