use Rattle.std.proofs.Common.{None, refl}
use Rattle.clone_pools.specs.declared.instance.Instance.TheVariants.{Idle}
use Rattle.clone_pools.proofs.Places.{kept-idle, places-set}
use Rattle.clone_pools.proofs.pool.put_scratch.Goals as goal

pub returns-clause-places : goal.returns-clause-places
returns-clause-places c =
    places-set c.args.instances.now.items c.args.clone c.from.result (Idle c.emptied.result) None c.from.ensures refl

pub returns-clause-kept : goal.returns-clause-kept
returns-clause-kept c room has all =
    kept-idle c.args.instances.now.items c.from.result c.emptied.result room (c.emptied.ensures.room room has)
    c.emptied.ensures.inputs all
