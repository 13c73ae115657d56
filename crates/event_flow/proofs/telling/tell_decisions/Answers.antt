use Rattle.std.proofs.Common.{arith}
use Rattle.event_flow.proofs.Reports.{decisions-more, decisions-none}
use Rattle.event_flow.proofs.telling.tell_decisions.Goals as goal

pub loop-sequence-init : goal.loop-sequence-init
loop-sequence-init c = record {
  told = decisions-none c.args.tree.now c.args.into.now.items;
  room = omega arith;
}

pub loop-sequence-preserved : goal.loop-sequence-preserved
loop-sequence-preserved c = record {
  told = decisions-more c.args.tree.now c.args.into.now.items c.loop-sequence.into.items c.put.new.list.items c.loop-sequence.sequence
      c.decision.result c.loop-sequence.invariant.told c.put.ensures.items c.decision.ensures;
  room = omega arith;
}
