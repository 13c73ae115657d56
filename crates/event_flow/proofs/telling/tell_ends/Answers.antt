use Rattle.std.proofs.Common.{arith}
use Rattle.event_flow.proofs.Reports.{ends-more, ends-none}
use Rattle.event_flow.proofs.telling.tell_ends.Goals as goal

pub loop-number-init : goal.loop-number-init
loop-number-init c = record {
  told = ends-none c.args.tree.now c.args.states.now c.args.into.now.items;
  room = omega arith;
}

pub loop-number-preserved : goal.loop-number-preserved
loop-number-preserved c = record {
  told = ends-more c.args.tree.now c.args.states.now c.args.into.now.items c.loop-number.into.items c.put.new.list.items c.loop-number.number
      c.end_at.result c.loop-number.invariant.told c.put.ensures.items c.end_at.ensures;
  room = omega arith;
}
