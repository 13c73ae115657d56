use Rattle.std.proofs.Common.{◌≡◌, ◌<◌, length, get_or, sym, ◌∙◌, arith}
use Rattle.std.proofs.lemmas.List.{length-set}
use Rattle.producer_graph.proofs.Holding.{added-one}
use Rattle.producer_graph.proofs.consumers.add_consumer.Goals as goal

pub loop-handle-preserved : goal.loop-handle-preserved
loop-handle-preserved c =
    let inside : get_or c.args.handles.now c.loop-handle.handle-index 0 < length c.loop-handle.consumers.items =
    let a = c.requires c.loop-handle.handle-index 0 c.loop-handle-test.true in let b = c.loop-handle.invariant.size in omega (arith, a, b) in
    record {
      size = length-set c.loop-handle.consumers.items (get_or c.args.handles.now c.loop-handle.handle-index 0) c.push_once.new.numbers
          ∙ c.loop-handle.invariant.size;
      added = added-one c.loop-handle.consumers.items c.args.handles.now c.loop-handle.handle-index c.args.number
          c.index_mut-of_one.result.now c.push_once.new.numbers c.loop-handle-test.true inside c.index_mut-of_one.ensures.value c.in_ok-push_once.ensures
          ∙ c.loop-handle.invariant.added;
    }
