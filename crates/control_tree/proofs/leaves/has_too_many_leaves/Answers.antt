use Rattle.std.proofs.Common.{◌≡◌, arith, ap, length}
use Rattle.text_model.specs.Forest.{leaves_in}
use Rattle.control_tree.proofs.LeafCounts.{leaves-more}
use Rattle.control_tree.proofs.leaves.has_too_many_leaves.Goals as goal

pub loop-of_one-preserved : goal.loop-of_one-preserved
loop-of_one-preserved c =
    let more = leaves-more c.args.members.now c.loop-of_one.of_one-index c.of_one-item.result c.loop-of_one-test.true c.of_one-item.is in
    let same : length (leaves_in c.as_slice.result.now) ≡ length (leaves_in c.of_one-item.result.items) = ap (λ ms. length (leaves_in ms)) c.as_slice.ensures in
    let counted = c.leaf_count.ensures in
    let summed = c.saturating_add-count.ensures in
    let before = c.loop-of_one.invariant in
    omega (arith, more, same, counted, summed, before)
