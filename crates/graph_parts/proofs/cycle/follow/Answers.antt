use Rattle.std.proofs.Common.{arith}
use Rattle.graph_parts.proofs.Following.{follows-next}
use Rattle.graph_parts.proofs.cycle.follow.Goals as goal

pub loop-target-preserved : goal.loop-target-preserved
loop-target-preserved c =
    follows-next c.args.targets.now c.loop-target.target-index c.args.from c.args.seen.now.items c.loop-target.seen.items c.see.new.seen.items
    c.args.found.now.items c.loop-target.found.items c.see.new.found.items c.requires c.loop-target.invariant c.loop-target-test.true
    c.if-target-from.false c.in_ok-see.ensures.seen c.in_ok-see.ensures.found
