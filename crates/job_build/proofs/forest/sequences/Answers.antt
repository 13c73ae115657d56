use Rattle.job_build.proofs.Forests.{sequences-more}
use Rattle.job_build.proofs.forest.sequences.Goals as goal

pub loop-index-preserved : goal.loop-index-preserved
loop-index-preserved c =
    sequences-more c.args.raws.now c.args.tree.now.members c.loop-index.found.items c.push.new.self.items c.loop-index.index c.index-raws-index.result
    c.members.result.now c.in_ok-sequence.sequence _ c.loop-index-test.true c.index-raws-index.is c.members.ensures c.in_ok-sequence.ensures
    c.in_ok-push.ensures.items c.loop-index.invariant
