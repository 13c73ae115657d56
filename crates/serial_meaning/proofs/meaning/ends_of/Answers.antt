use Rattle.hive_model.specs.Event.{end_of}
use Rattle.serial_meaning.proofs.Joined.{numbered_more}
use Rattle.serial_meaning.proofs.meaning.ends_of.Goals as goal

pub loop-number-preserved : goal.loop-number-preserved
loop-number-preserved c =
    numbered_more (end_of c.args.job.now c.args.outcomes.now) c.loop-number.ends.items c.push.new.self.items
    c.loop-number.number _
    c.loop-number.invariant c.in_ok-push.ensures.items c.in_ok-end_of.ensures
