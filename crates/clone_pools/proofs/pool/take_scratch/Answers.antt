use Rattle.std.proofs.Common.{None, ap, sym}
use Rattle.clone_pools.specs.Instances.{place_of}
use Rattle.clone_pools.proofs.Places.{places-set, kept-lent, within-places}
use Rattle.clone_pools.proofs.pool.take_scratch.Goals as goal

pub returns-clause-places : goal.returns-clause-places
returns-clause-places c =
    places-set c.args.instances.now.items c.args.clone c.from.result c.replace.new.dest _ c.from.ensures (ap place_of c.replace.ensures.after)

pub returns-clause-kept : goal.returns-clause-kept
returns-clause-kept c =
    kept-lent c.args.instances.now.items c.from.result c.args.place c.replace.new.dest c.index_mut.result.now c.in-Idle.scratch
    (within-places c.args.instances.now.items c.args.clone c.from.result None c.from.ensures c.requires) c.index_mut.ensures.value c.replace.ensures.after
    (sym c.in-Idle.ensures.value)
