use Rattle.std.proofs.Common.{arith, ◌∙◌}
use Rattle.algo_states.specs.Table.{lists_of}
use Rattle.algo_states.proofs.Indexing.{index-all, index-more}
use Rattle.algo_states.proofs.founding.consumers_of.Goals as goal

pub loop-number-preserved : goal.loop-number-preserved
loop-number-preserved c = record {
  lengths = c.in_ok-add_consumer.ensures.length ∙ c.loop-number.invariant.lengths;
  index = index-more c.args.needs.now c.loop-number.consumers.items c.add_consumer.new.consumers.items c.loop-number.number c.as_slice.result.now
      c.index-needs-number.result c.loop-number-test.true c.index-needs-number.is c.as_slice.ensures c.in_ok-add_consumer.ensures.length c.loop-number.invariant.index
      c.in_ok-add_consumer.ensures.same c.in_ok-add_consumer.ensures.others;
}

pub returns-clause-index : goal.returns-clause-index
returns-clause-index c =
    index-all c.args.needs.now (lists_of c.loop-number.consumers.items) c.loop-number.number (omega arith) c.loop-number.invariant.index
