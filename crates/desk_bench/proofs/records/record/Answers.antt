use Rattle.desk_bench.proofs.Pushing.{one-more}
use Rattle.desk_bench.proofs.records.record.Goals as goal

pub loop-raw-preserved : goal.loop-raw-preserved
loop-raw-preserved c =
    one-more c.raws-raw-items.result.now c.loop-raw.cells.items c.push.new.self.items c.loop-raw.raw-index
    c.raw-item.result c.in_ok-product.field-0 c.loop-raw-test.true c.raw-item.is c.in_ok-push.ensures.items
    c.in_ok-product.ensures c.loop-raw.invariant
