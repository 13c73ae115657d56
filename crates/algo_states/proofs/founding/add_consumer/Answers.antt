use Rattle.std.proofs.Common.{◌<◌, length, length-set, ◌∙◌, arith}
use Rattle.algo_states.proofs.Indexing.{pushed-others, pushed-same}
use Rattle.algo_states.proofs.founding.add_consumer.Goals as goal

pub loop-handle-preserved : goal.loop-handle-preserved
loop-handle-preserved c =
    let consumers = c.loop-handle.consumers.items in
    let first = c.args.consumers.now.items in
    let all = c.requires c.loop-handle.handle-index 0 c.loop-handle-test.true in
    let lt : c.from.result < length consumers = omega (arith, all, c.from.ensures, c.loop-handle.invariant.lengths) in
    record {
      lengths = length-set consumers c.from.result c.push_to.new.list ∙ c.loop-handle.invariant.lengths;
      same = λ h within. pushed-same consumers first c.args.inputs.now c.loop-handle.handle-index c.from.result c.index_mut.result.now c.push_to.new.list
          c.args.number h lt c.index_mut.ensures.value c.in_ok-push_to.ensures c.loop-handle-test.true c.from.ensures (c.loop-handle.invariant.same h within);
      others = λ a h other. pushed-others consumers first c.from.result c.index_mut.result.now c.push_to.new.list c.args.number a h lt c.index_mut.ensures.value
          c.in_ok-push_to.ensures other (c.loop-handle.invariant.others a h other);
    }
